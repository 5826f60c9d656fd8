-- Where each firing keeps the declared rates, n firings do.
use Rattle.std.proofs.Common.{◌≡◌, refl, ap, ◌∙◌, ℕ, zero, suc, ◌+◌, ◌<◌, ◌≤◌, Bool, true, false}
use Rattle.std.proofs.Common.{cond, List, [], ◌++◌, length, take, drop, Option, Some, None, arith}
use Rattle.std.proofs.Common.{length-append, length-take, length-drop, lt-ltb}
use Rattle.strc_elab_dataflow.specs.Node.{ByPort, Fired, Fired.Fires, Fired.Faults, Meaning, total}
use Rattle.strc_elab_dataflow.specs.Histories.{Run, windows, finds, initial_run, after_firing}
use Rattle.strc_elab_dataflow.specs.Histories.{advance_if}
use Rattle.strc_elab_dataflow.specs.Histories.{advance, runs, KeepsRates}
use Rattle.strc_elab_dataflow.proofs.Runs.{found_at}

module _ {Code State Cause Word : Type 0} (meaning : Meaning Code State Cause Word) (code : Code)
  where
    -- From states that are fine, at whole windows, a firing that doesn't fault leaves a fine state
    -- and pushes the declared number of items at each port.
    pub record KeepsEachFiring (IsFine : State → Type 0) : Type 0 where
      pub fine_at_start : IsFine (meaning.start code)
      pub kept :
          (firing : ℕ) (state next : State) (seen pushes : ByPort) (words : List Word)
          → IsFine state
          → ((port : ℕ) → port < meaning.ports code
          → length (seen port) ≡ meaning.window code firing port)
          → meaning.fire code firing state seen ≡ Fires next pushes words
          → IsFine next × ((port : ℕ) → length (pushes port) ≡ meaning.pushed code firing port)

    window_length : (n : ℕ) (inputs : ByPort) → finds meaning code n inputs ≡ true → (port : ℕ)
        → port < meaning.ports code → length (windows meaning code n inputs port)
        ≡ meaning.window code n port
    unfolding windows
    window_length n inputs found port less =
        ap (λ (test : Bool). length (cond test
        (take (meaning.window code n port)
        (drop (total (meaning.popped code) n port) (inputs port))) []))
        (lt-ltb port (meaning.ports code) less)
        ∙ (let e : length (take (meaning.window code n port)
        (drop (total (meaning.popped code) n port) (inputs port)))
        ≡ meaning.window code n port
        = omega (
          arith,
          length-take (meaning.window code n port)
              (drop (total (meaning.popped code) n port) (inputs port)),
          length-drop (total (meaning.popped code) n port) (inputs port),
          found_at meaning code n inputs found port less,
        ) in e)

    pub fired_by : (run : Run State Cause Word) (outcome : Fired State Cause Word)
        → (after_firing meaning code run outcome).fired ≤ suc run.fired
    unfolding after_firing
    fired_by run (Fires state pushes words) = omega arith
    fired_by run (Faults cause) = omega arith

    fired_if : (inputs : ByPort) (run : Run State Cause Word) (fault : Option Cause) (found : Bool)
        → (advance_if meaning code inputs run fault found).fired ≤ suc run.fired
    unfolding advance_if
    fired_if inputs run (Some cause) found = omega arith
    fired_if inputs run None true = fired_by run
        (meaning.fire code run.fired run.state (windows meaning code run.fired inputs))
    fired_if inputs run None false = omega arith

    pub fired_at_most : (n : ℕ) (inputs : ByPort) → (runs meaning code n inputs).fired ≤ n
    unfolding runs initial_run advance
    fired_at_most zero inputs = omega arith
    fired_at_most (suc n) inputs =
        omega (
          arith,
          fired_at_most n inputs,
          fired_if inputs (runs meaning code n inputs) (runs meaning code n inputs).fault
              (finds meaning code (runs meaning code n inputs).fired inputs),
        )

    module _ (IsFine : State → Type 0) (keeps : KeepsEachFiring IsFine) where
      abbrev IsKept : ℕ → Run State Cause Word → Type 0
      IsKept n run = IsFine run.state × ((port : ℕ)
          → length (run.pushes port) ≡ total (meaning.pushed code) n port)

      kept_by :
          (n : ℕ) (inputs : ByPort) (run : Run State Cause Word)
          → (run.fired ≡ n → IsKept n run)
          → finds meaning code run.fired inputs ≡ true
          → (outcome : Fired State Cause Word)
          → meaning.fire code run.fired run.state (windows meaning code run.fired inputs) ≡ outcome
          → (after_firing meaning code run outcome).fired ≡ suc n
          → (after_firing meaning code run outcome).fault ≡ None
          → IsKept (suc n) (after_firing meaning code run outcome)
      unfolding after_firing total
      kept_by n inputs run ih found (Fires state pushes words) e counted faultless = (new.0, both)
        where
          this : run.fired ≡ n
          this = omega arith

          new : IsFine state × ((port : ℕ) → length (pushes port)
              ≡ meaning.pushed code run.fired port)
          new = keeps.kept run.fired run.state state
              (windows meaning code run.fired inputs) pushes words (ih this).0
              (window_length run.fired inputs found) e

          both : (port : ℕ) → length (run.pushes port ++ pushes port)
              ≡ total (meaning.pushed code) n port + meaning.pushed code n port
          both port = omega (
            arith,
            length-append (run.pushes port) (pushes port),
            (ih this).1 port,
            new.1 port,
            ap (λ (i : ℕ). meaning.pushed code i port) this,
          )
      kept_by n inputs run ih found (Faults cause) e counted faultless = absurd (grind arith)

      kept_if :
          (n : ℕ) (inputs : ByPort) (run : Run State Cause Word)
          → run.fired ≤ n
          → (run.fired ≡ n → run.fault ≡ None → IsKept n run)
          → (fault : Option Cause) → run.fault ≡ fault → (found : Bool)
          → finds meaning code run.fired inputs ≡ found
          → (advance_if meaning code inputs run fault found).fired ≡ suc n
          → (advance_if meaning code inputs run fault found).fault ≡ None
          → IsKept (suc n) (advance_if meaning code inputs run fault found)
      unfolding advance_if
      kept_if n inputs run below ih (Some cause) e found f counted faultless = absurd (omega arith)
      kept_if n inputs run below ih None e false f counted faultless = absurd (omega arith)
      kept_if n inputs run below ih None e true f counted faultless =
          kept_by n inputs run (λ this. ih this e) f
          (meaning.fire code run.fired run.state (windows meaning code run.fired inputs)) refl
          counted faultless

      rates_at : (n : ℕ) (inputs : ByPort) → (runs meaning code n inputs).fired ≡ n
          → (runs meaning code n inputs).fault ≡ None → IsKept n (runs meaning code n inputs)
      unfolding runs initial_run advance total
      rates_at zero inputs counted faultless = (keeps.fine_at_start, λ port. refl)
      rates_at (suc n) inputs counted faultless =
          kept_if n inputs (runs meaning code n inputs) (fired_at_most n inputs) (rates_at n inputs)
          (runs meaning code n inputs).fault refl
          (finds meaning code (runs meaning code n inputs).fired inputs) refl counted faultless

      -- Where each firing keeps the rates, the node does.
      pub keeps_rates : KeepsRates meaning code
      keeps_rates = record {
        kept = λ n inputs counted faultless.
            (rates_at n inputs counted faultless).1;
      }
