-- A node over whole lists: what n firings make of its inputs (StreamIt specification 2.1,
-- "Filters": `work`, `prework`, peek and pop).
use Rattle.std.specs.Prelude.{◌≡◌, ℕ, zero, suc, ◌+◌, Bool, true, false, cond, ◌&&◌, leb, ltb, List}
use Rattle.std.specs.Prelude.{[], ◌++◌, length, take, drop, Option, Some, None}
use Rattle.strc_elab_dataflow.specs.Node.{ByPort, Fired, Fired.Fires, Fired.Faults, Meaning, total}

-- A node's life so far: firings done, state, all it pushed and wrote, and the cause that stopped
-- it, if one did.
pub record Run (State Cause Word : Type 0) : Type 0 where
  pub fired : ℕ
  pub state : State
  pub pushes : ByPort
  pub words : List Word
  pub fault : Option Cause

-- Does a test hold of each number below n?
unfoldable pub all_below : ℕ → (ℕ → Bool) → Bool
all_below zero test = true
all_below (suc n) test = all_below n test && test n

module _ {Code State Cause Word : Type 0} (meaning : Meaning Code State Cause Word) (code : Code)
  where
    -- What firing n looks at in the whole inputs: its windows, after all that earlier firings took.
    unfoldable pub windows : ℕ → ByPort → ByPort
    windows n inputs port =
        cond (ltb port (meaning.ports code))
        (take (meaning.window code n port)
        (drop (total (meaning.popped code) n port) (inputs port))) []

    -- Do the inputs reach to the end of each window of firing n?
    unfoldable pub finds : ℕ → ByPort → Bool
    finds n inputs = all_below (meaning.ports code)
        (λ port. leb (total (meaning.popped code) n port + meaning.window code n port)
        (length (inputs port)))

    -- Before the first firing.
    unfoldable pub initial_run : Run State Cause Word
    initial_run = record {
      fired = 0;
      state = meaning.start code;
      pushes = λ port. [];
      words = [];
      fault =
          None;
    }

    -- A run with the outcome of its next firing.
    unfoldable pub after_firing : Run State Cause Word → Fired State Cause Word → Run State Cause
        Word
    after_firing run (Fires state pushes words) =
        record {
          fired = suc run.fired;
          state = state;
          pushes =
              λ port. run.pushes port ++ pushes port;
          words = run.words ++ words;
          fault = None;
        }
    after_firing run (Faults cause) = record {
      fired = run.fired;
      state = run.state;
      pushes = run.pushes;
      words = run.words;
      fault =
          Some cause;
    }

    -- One more firing, if no earlier one faulted and its windows are found.
    unfoldable pub advance_if : ByPort → Run State Cause Word → Option Cause → Bool
        → Run State Cause Word
    advance_if inputs run (Some cause) found = run
    advance_if inputs run None true = after_firing run
        (meaning.fire code run.fired run.state (windows run.fired inputs))
    advance_if inputs run None false = run

    unfoldable pub advance : ByPort → Run State Cause Word → Run State Cause Word
    advance inputs run = advance_if inputs run run.fault (finds run.fired inputs)

    -- n firings over whole inputs; firings that find no window, or are after a fault, aren't
    -- done.
    unfoldable pub runs : ℕ → ByPort → Run State Cause Word
    runs zero inputs = initial_run
    runs (suc n) inputs = advance inputs (runs n inputs)

    -- The declared rates are kept: as long as no firing faults, n firings push at each port the sum
    -- of their rates.
    pub record KeepsRates : Type 0 where
      pub kept : (n : ℕ) (inputs : ByPort) → (runs n inputs).fired ≡ n → (runs n inputs).fault ≡
          None
          → (port : ℕ) → length ((runs n inputs).pushes port) ≡ total (meaning.pushed code) n port
