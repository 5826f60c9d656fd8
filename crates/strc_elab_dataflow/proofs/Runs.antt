-- A node's runs: they grow, a fault ends them, and longer inputs that begin alike change no firing
-- that finds its windows.
use Rattle.std.proofs.Common.{◌≡◌, refl, sym, ap, ◌∙◌, ℕ, zero, suc, ◌+◌, ◌<◌, ◌≤◌, Bool, true}
use Rattle.std.proofs.Common.{false, cond, leb, ltb, List, [], ◌++◌, length, take, drop, Option}
use Rattle.std.proofs.Common.{Some, None, ℤ, arith, append_assoc, append-nil, length-append}
use Rattle.std.proofs.Common.{length-drop, le-leb, leb-true, ltb-true}
use mathlib.Core.Path.{fun_ext}
use mathlib.Core.Logic.{inl, inr, ◌⊎◌}
use Rattle.std.proofs.lemmas.List.{take-append-le, drop-append-le}
use Rattle.std.proofs.lemmas.Bool.{and_parts, and_from, cases_order}
use Rattle.strc_elab_dataflow.specs.Node.{ByPort, Fired, Fired.Fires, Fired.Faults, Meaning, total}
use Rattle.strc_elab_dataflow.specs.Histories.{Run, all_below, windows, finds, initial_run}
use Rattle.strc_elab_dataflow.specs.Histories.{after_firing}
use Rattle.strc_elab_dataflow.specs.Histories.{advance_if, advance, runs}

-- The second list begins with the first.
pub record Begins (xs ys : List ℤ) : Type 0 where
  pub rest : List ℤ
  pub whole : ys ≡ xs ++ rest

pub begins_itself : (xs : List ℤ) → Begins xs xs
begins_itself xs = record { rest = []; whole = sym (append-nil xs) }

pub begins_then : (xs ys zs : List ℤ) → Begins xs ys → Begins ys zs → Begins xs zs
begins_then xs ys zs b c = record {
  rest = b.rest ++ c.rest;
  whole =
      c.whole ∙ ap (λ (l : List ℤ). l ++ c.rest) b.whole ∙ append_assoc xs b.rest c.rest;
}

pub begins_length : (xs ys : List ℤ) → Begins xs ys → length xs ≤ length ys
begins_length xs ys b = omega (arith, ap length b.whole, length-append xs b.rest)

below_or_at : (i n : ℕ) → i < suc n → (i ≡ n) ⊎ (i < n)
below_or_at i n h = elim (cases_order i n) [
  | inl e ↦ inl e
  | inr other ↦ elim other
      [ inl less ↦ inr less | inr more ↦ absurd (omega arith) ]
]

pub at_or_below : (n later : ℕ) → n ≤ suc later → (n ≡ suc later) ⊎ (n ≤ later)
at_or_below n later h = elim (cases_order n (suc later)) [
  | inl e ↦ inl e
  | inr other ↦ elim other
      [ inl less ↦ inr (omega arith) | inr more ↦ absurd (omega arith) ]
]

pub each_below : (n : ℕ) (test : ℕ → Bool) → all_below n test ≡ true → (i : ℕ) → i < n
    → test i ≡ true
unfolding all_below
each_below zero test h i lt = absurd (omega arith)
each_below (suc n) test h i lt =
    elim (below_or_at i n lt) [
      | inl e ↦ rw e (and_parts (all_below n test) (test n) h).1
      | inr less ↦ each_below n test (and_parts (all_below n test) (test n) h).0 i less
    ]

pub all_from_each : (n : ℕ) (test : ℕ → Bool) → ((i : ℕ) → i < n → test i ≡ true)
    → all_below n test ≡ true
unfolding all_below
all_from_each zero test h = refl
all_from_each (suc n) test h = and_from (all_below n test) (test n)
    (all_from_each n test (λ i lt. h i (omega arith))) (h n (omega arith))

-- A window inside a list is the same window of a longer one.
pub window_of_longer : (t w : ℕ) (xs ys : List ℤ) → Begins xs ys → t + w ≤ length xs
    → take w (drop t ys) ≡ take w (drop t xs)
window_of_longer t w xs ys b h =
    ap (λ (l : List ℤ). take w (drop t l)) b.whole
    ∙ ap (take w) (drop-append-le t xs b.rest (omega arith))
    ∙ take-append-le w (drop t xs) b.rest (omega (arith, length-drop t xs))

module _ {Code State Cause Word : Type 0} (meaning : Meaning Code State Cause Word) (code : Code)
  where
    pub finds_longer : (n : ℕ) (xs ys : ByPort) → ((port : ℕ) → Begins (xs port) (ys port))
        → finds meaning code n xs ≡ true → finds meaning code n ys ≡ true
    unfolding finds
    finds_longer n xs ys b h =
        all_from_each (meaning.ports code) (λ port. leb
        (total (meaning.popped code) n port + meaning.window code n port) (length (ys port)))
        (λ i lt.
        le-leb (total (meaning.popped code) n i + meaning.window code n i) (length (ys i))
        (omega (
          arith,
          leb-true (total (meaning.popped code) n i + meaning.window code n i) (length (xs i))
              (each_below (meaning.ports code)
              (λ port. leb (total (meaning.popped code) n port + meaning.window code n port)
              (length (xs port))) h i lt),
          begins_length (xs i) (ys i) (b i),
        )))

    pub found_at : (n : ℕ) (xs : ByPort) → finds meaning code n xs ≡ true → (port : ℕ)
        → port < meaning.ports code → total (meaning.popped code) n port + meaning.window code n
        port
        ≤ length (xs port)
    unfolding finds
    found_at n xs h port lt =
        leb-true (total (meaning.popped code) n port + meaning.window code n port)
        (length (xs port))
        (each_below (meaning.ports code) (λ port. leb
        (total (meaning.popped code) n port + meaning.window code n port) (length (xs port))) h port
        lt)

    pub finds_from : (n : ℕ) (xs : ByPort) → ((port : ℕ) → port < meaning.ports code
        → total (meaning.popped code) n port + meaning.window code n port ≤ length (xs port))
        → finds meaning code n xs ≡ true
    unfolding finds
    finds_from n xs h =
        all_from_each (meaning.ports code) (λ port. leb
        (total (meaning.popped code) n port + meaning.window code n port) (length (xs port)))
        (λ i lt. le-leb (total (meaning.popped code) n i + meaning.window code n i) (length (xs i))
        (h i lt))

    window_by : (n : ℕ) (xs ys : ByPort) (port : ℕ) → Begins (xs port) (ys port) → (test : Bool)
        → (test ≡ true → total (meaning.popped code) n port + meaning.window code n port
        ≤ length (xs port)) → cond test (take (meaning.window code n port)
        (drop (total (meaning.popped code) n port) (ys port))) []
        ≡ cond test (take (meaning.window code n port)
        (drop (total (meaning.popped code) n port) (xs port))) []
    window_by n xs ys port b true h = window_of_longer (total (meaning.popped code) n port)
        (meaning.window code n port) (xs port) (ys port) b (h refl)
    window_by n xs ys port b false h = refl

    pub windows_longer : (n : ℕ) (xs ys : ByPort) → ((port : ℕ) → Begins (xs port) (ys port))
        → finds meaning code n xs ≡ true → windows meaning code n ys ≡ windows meaning code n xs
    unfolding windows
    windows_longer n xs ys b h =
        fun_ext (λ port. window_by n xs ys port (b port) (ltb port (meaning.ports code))
        (λ e. found_at n xs h port (ltb-true port (meaning.ports code) e)))

    advance_by : (xs ys : ByPort) (run : Run State Cause Word)
        → windows meaning code run.fired ys ≡ windows meaning code run.fired xs
        → (fault : Option Cause) → advance_if meaning code ys run fault true
        ≡ advance_if meaning code xs run fault true
    unfolding advance_if
    advance_by xs ys run e (Some cause) = refl
    advance_by xs ys run e None = ap (λ (w : ByPort). after_firing meaning code run
        (meaning.fire code run.fired run.state w)) e

    -- A firing that finds its windows does the same over longer inputs.
    pub advance_longer : (xs ys : ByPort) (run : Run State Cause Word)
        → ((port : ℕ) → Begins (xs port) (ys port)) → finds meaning code run.fired xs ≡ true
        → advance meaning code ys run ≡ advance meaning code xs run
    unfolding advance
    advance_longer xs ys run b h =
        ap (λ (t : Bool). advance_if meaning code ys run run.fault t)
        (finds_longer run.fired xs ys b h)
        ∙ advance_by xs ys run (windows_longer run.fired xs ys b h) run.fault
        ∙ ap (λ (t : Bool). advance_if meaning code xs run run.fault t) (sym h)

    -- What each firing keeps holds between an earlier and a later number of firings.
    pub later_runs :
        (Keeps : Run State Cause Word → Run State Cause Word → Type 0)
        → ((run : Run State Cause Word) → Keeps run run)
        → (inputs : ByPort)
        → ((r s : Run State Cause Word) → Keeps r s → Keeps r (advance meaning code inputs s))
        → (n later : ℕ)
        → n ≤ later
        → Keeps (runs meaning code n inputs) (runs meaning code later inputs)
    unfolding runs
    later_runs Keeps itself inputs step n zero h = let e : n ≡ 0 = omega arith in
        rw e (itself (initial_run meaning code))
    later_runs Keeps itself inputs step n (suc later) h =
        elim (at_or_below n later h) [
          | inl e ↦ rw e (itself (advance meaning code inputs (runs meaning code later inputs)))
          | inr less ↦ step (runs meaning code n inputs) (runs meaning code later inputs)
              (later_runs Keeps itself inputs step n later (omega arith))
        ]

    stays_by : (inputs : ByPort) (run : Run State Cause Word) (cause : Cause) (fault : Option Cause)
        (found : Bool) → fault ≡ Some cause → advance_if meaning code inputs run fault found ≡ run
    unfolding advance_if
    stays_by inputs run cause (Some c) found e = refl
    stays_by inputs run cause None found e = absurd (grind arith)

    waits_by : (inputs : ByPort) (run : Run State Cause Word) (fault : Option Cause) (found : Bool)
        → found ≡ false → advance_if meaning code inputs run fault found ≡ run
    unfolding advance_if
    waits_by inputs run (Some c) found e = refl
    waits_by inputs run None true e = absurd (grind arith)
    waits_by inputs run None false e = refl

    -- A firing that doesn't find its windows isn't done.
    pub not_found : (inputs : ByPort) (run : Run State Cause Word)
        → finds meaning code run.fired inputs ≡ false → advance meaning code inputs run ≡ run
    unfolding advance
    not_found inputs run e = waits_by inputs run run.fault (finds meaning code run.fired inputs) e

    -- A fault ends a run.
    pub stays_faulted : (inputs : ByPort) (run : Run State Cause Word) (cause : Cause)
        → run.fault ≡ Some cause → advance meaning code inputs run ≡ run
    unfolding advance
    stays_faulted inputs run cause e = stays_by inputs run cause run.fault
        (finds meaning code run.fired inputs) e

    pub runs_faulted : (inputs : ByPort) (n later : ℕ) (cause : Cause) → n ≤ later
        → (runs meaning code n inputs).fault ≡ Some cause
        → runs meaning code later inputs ≡ runs meaning code n inputs
    runs_faulted inputs n later cause h =
        later_runs
        (λ r s. r.fault ≡ Some cause → s ≡ r)
        (λ run e. refl)
        inputs
        (λ r s keeps e. ap (advance meaning code inputs) (keeps e) ∙ stays_faulted inputs r cause e)
        n
        later
        h

    fired_by : (run : Run State Cause Word) (outcome : Fired State Cause Word)
        → run.fired ≤ (after_firing meaning code run outcome).fired
    unfolding after_firing
    fired_by run (Fires state pushes words) = omega arith
    fired_by run (Faults cause) = omega arith

    fired_if : (inputs : ByPort) (run : Run State Cause Word) (fault : Option Cause) (found : Bool)
        → run.fired ≤ (advance_if meaning code inputs run fault found).fired
    unfolding advance_if
    fired_if inputs run (Some cause) found = omega arith
    fired_if inputs run None true = fired_by run
        (meaning.fire code run.fired run.state (windows meaning code run.fired inputs))
    fired_if inputs run None false = omega arith

    pub fired_grows : (inputs : ByPort) (n later : ℕ) → n ≤ later
        → (runs meaning code n inputs).fired ≤ (runs meaning code later inputs).fired
    unfolding advance
    fired_grows inputs =
        later_runs
        (λ r s. r.fired ≤ s.fired)
        (λ run. omega arith)
        inputs
        (λ r s keeps. omega (
          arith,
          keeps,
          fired_if inputs s s.fault
              (finds meaning code s.fired inputs),
        ))

    pushes_by : (run : Run State Cause Word) (outcome : Fired State Cause Word) (port : ℕ)
        → Begins (run.pushes port) ((after_firing meaning code run outcome).pushes port)
    unfolding after_firing
    pushes_by run (Fires state pushes words) port = record { rest = pushes port; whole = refl }
    pushes_by run (Faults cause) port = begins_itself (run.pushes port)

    pub pushes_if : (inputs : ByPort) (run : Run State Cause Word) (fault : Option Cause)
        (found : Bool) (port : ℕ) → Begins (run.pushes port)
        ((advance_if meaning code inputs run fault found).pushes port)
    unfolding advance_if
    pushes_if inputs run (Some cause) found port = begins_itself (run.pushes port)
    pushes_if inputs run None true port = pushes_by run
        (meaning.fire code run.fired run.state (windows meaning code run.fired inputs)) port
    pushes_if inputs run None false port = begins_itself (run.pushes port)

    pub pushes_grow : (inputs : ByPort) (port n later : ℕ) → n ≤ later
        → Begins ((runs meaning code n inputs).pushes port)
        ((runs meaning code later inputs).pushes port)
    unfolding advance
    pushes_grow inputs port =
        later_runs
        (λ r s. Begins (r.pushes port) (s.pushes port))
        (λ run. begins_itself (run.pushes port))
        inputs
        (λ r s keeps. begins_then (r.pushes port) (s.pushes port)
        ((advance meaning code inputs s).pushes port) keeps
        (pushes_if inputs s s.fault (finds meaning code s.fired inputs) port))

    kept_by : (run : Run State Cause Word) (outcome : Fired State Cause Word) (cause : Cause)
        (port : ℕ) → (after_firing meaning code run outcome).fault ≡ Some cause
        → (after_firing meaning code run outcome).pushes port ≡ run.pushes port
    unfolding after_firing
    kept_by run (Fires state pushes words) cause port e = absurd (grind arith)
    kept_by run (Faults c) cause port e = refl

    kept_if : (inputs : ByPort) (run : Run State Cause Word) (fault : Option Cause) (found : Bool)
        (cause : Cause) (port : ℕ) → (advance_if meaning code inputs run fault found).fault
        ≡ Some cause → (advance_if meaning code inputs run fault found).pushes port ≡ run.pushes
        port
    unfolding advance_if
    kept_if inputs run (Some c) found cause port e = refl
    kept_if inputs run None true cause port e =
        kept_by run (meaning.fire code run.fired run.state (windows meaning code run.fired inputs))
        cause port e
    kept_if inputs run None false cause port e = refl

    -- A firing that faults pushes nothing.
    pub fault_pushes_nothing : (inputs : ByPort) (run : Run State Cause Word) (cause : Cause)
        (port : ℕ) → (advance meaning code inputs run).fault ≡ Some cause
        → (advance meaning code inputs run).pushes port ≡ run.pushes port
    unfolding advance
    fault_pushes_nothing inputs run cause port e =
        kept_if inputs run run.fault (finds meaning code run.fired inputs) cause port e

    counts_by : (run : Run State Cause Word) (outcome : Fired State Cause Word)
        → ((after_firing meaning code run outcome).fault ≡ None
        → (after_firing meaning code run outcome).fired ≡ suc run.fired)
        × ((cause : Cause) → (after_firing meaning code run outcome).fault ≡ Some cause
        → (after_firing meaning code run outcome).fired ≡ run.fired)
    unfolding after_firing
    counts_by run (Fires state pushes words) = (λ e. refl, λ cause e. absurd (grind arith))
    counts_by run (Faults cause) = (λ e. absurd (grind arith), λ c e. refl)

    counts_if : (inputs : ByPort) (run : Run State Cause Word) (fault : Option Cause) (found : Bool)
        → fault ≡ None → found ≡ true →
        ((advance_if meaning code inputs run fault found).fault ≡ None
        → (advance_if meaning code inputs run fault found).fired ≡ suc run.fired)
        × ((cause : Cause) → (advance_if meaning code inputs run fault found).fault ≡ Some cause
        → (advance_if meaning code inputs run fault found).fired ≡ run.fired)
    unfolding advance_if
    counts_if inputs run (Some cause) found e f = absurd (grind arith)
    counts_if inputs run None true e f = counts_by run
        (meaning.fire code run.fired run.state (windows meaning code run.fired inputs))
    counts_if inputs run None false e f = absurd (grind arith)

    -- A firing that finds its windows counts unless it faults.
    pub advance_counts : (inputs : ByPort) (run : Run State Cause Word) → run.fault ≡ None
        → finds meaning code run.fired inputs ≡ true
        → ((advance meaning code inputs run).fault ≡ None
        → (advance meaning code inputs run).fired ≡ suc run.fired)
        × ((cause : Cause) → (advance meaning code inputs run).fault ≡ Some cause
        → (advance meaning code inputs run).fired ≡ run.fired)
    unfolding advance
    advance_counts inputs run e f = counts_if inputs run run.fault
        (finds meaning code run.fired inputs) e f
