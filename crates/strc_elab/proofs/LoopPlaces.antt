-- Where loops of a body are refused, iteration by iteration.
use Rattle.std.proofs.Common.{◌≡◌, ℕ, ℤ, suc, ◌+◌, ◌-◌, ◌<◌, ◌≤◌, Bool, true, false, cond}
use Rattle.std.proofs.Common.{Option, Result, Ok, sym, ap, ◌∙◌, arith}
use Rattle.strc_lex_names.specs.declared.place.Span.{Span}
use Rattle.strc_work_meaning.specs.Arithmetic.{is_true}
use Rattle.strc_work_meaning.specs.Firing as firing
use Rattle.strc_work_meaning.specs.Firing.{turn_limit}
use Rattle.strc_work_meaning.specs.declared.fault.TheConstants.{TURN_LIMIT}
use Rattle.strc_elab_statements.specs.Answers.{IsRefusal}
use Rattle.strc_elab_statements.specs.Statements.{computed}
use Rattle.strc_elab_statements.specs.declared.error.ElabError.{ElabError}
use Rattle.strc_elab_statements.proofs.Refusals.{first_refused}
use Rattle.strc_elab.specs.Answering.{IsPlaceOf}
use Rattle.strc_elab.specs.Elaboration.{Progress, turned}
use Rattle.strc_elab.specs.Places.{place_after, trace_after, looped_trace}
use Rattle.strc_elab.specs.declared.trace.Trace.{Trace}
use Rattle.strc_elab.proofs.LoopRuns.{Test, Step, turned_done}
use Rattle.strc_elab.proofs.Places.{placed_same, first_here, first_placed, second_placed}
use Rattle.strc_elab.proofs.Places.{place_after_done}
use Rattle.strc_elab.proofs.Turns.{turn_limit_is}

-- what is traced of an iteration
abbrev pub Turn : Type 0
Turn = Progress → Trace → Trace

-- from a round on, a loop is traced as the whole loop is
abbrev pub LeadsTo : Test → Step → Turn → (round : ℕ) → Progress → Trace → (whole : Trace) → Type 0
LeadsTo test body turn round p trace whole = (fuel : ℕ) → fuel + round ≡ suc turn_limit
    → looped_trace fuel test body turn p trace ≡ whole

-- an iteration that is counted, and those after it
abbrev rest_of : (fuel : ℕ) → Test → Step → Turn → Trace → Progress → Trace
rest_of fuel test body turn trace turning =
    trace_after (body turning) (turn turning trace) (looped_trace fuel test body turn)

-- one iteration of a loop, once the condition has its value
abbrev turn_of : (fuel : ℕ) → Test → Step → Turn → Trace → ℤ × Progress → Trace
turn_of fuel test body turn trace tested = cond (is_true tested.0)
    (place_after (turned tested.1) trace (rest_of fuel test body turn trace)) trace

-- how the whole loop goes on from a round
whole_is : (test : Test) (body : Step) (turn : Turn) (round : ℕ) (p : Progress)
    (trace whole : Trace) → round < TURN_LIMIT + 1
    → LeadsTo test body turn round p trace whole
    → whole ≡ place_after (test p) trace (turn_of (turn_limit - round) test body turn trace)
whole_is test body turn round p trace whole below leads =
    let enough : suc (turn_limit - round) + round ≡ suc turn_limit =
    omega (arith, turn_limit_is, below) in sym (leads (suc (turn_limit - round)) enough)

whole_turns : (test : Test) (body : Step) (turn : Turn) (round : ℕ) (p tested : Progress)
    (value : ℤ) (trace whole : Trace) (b : Bool) → round < TURN_LIMIT + 1
    → LeadsTo test body turn round p trace whole → test p ≡ Ok (value, tested)
    → is_true value ≡ b → whole ≡ cond b
    (place_after (turned tested) trace (rest_of (turn_limit - round) test body turn trace)) trace
whole_turns test body turn round p tested value trace whole b below leads is holds =
    whole_is test body turn round p trace whole below leads
    ∙ place_after_done (test p) trace (turn_of (turn_limit - round) test body turn trace)
    (value, tested) is
    ∙ ap (λ b. cond b (place_after (turned tested) trace
    (rest_of (turn_limit - round) test body turn trace)) trace) holds

-- a condition that is refused
pub test_placed : (test : Test) (body : Step) (turn : Turn) (round : ℕ) (p : Progress)
    (trace whole : Trace) (found : Option Span) (e : ElabError) → round < TURN_LIMIT + 1
    → LeadsTo test body turn round p trace whole → IsRefusal (test p) e → found ≡ trace.here
    → IsPlaceOf e whole.here found
test_placed test body turn round p trace whole found e below leads h is =
    let go = turn_of (turn_limit - round) test body turn trace in
    placed_same e (place_after (test p) trace go).here whole.here found
    (ap (λ t. t.here) (whole_is test body turn round p trace whole below leads))
    (first_here (test p) e trace found go h is)

-- a condition that doesn't hold
pub trace_ends : (test : Test) (body : Step) (turn : Turn) (round : ℕ) (p tested : Progress)
    (value : ℤ) (trace whole : Trace) → round < TURN_LIMIT + 1
    → LeadsTo test body turn round p trace whole → test p ≡ Ok (value, tested)
    → is_true value ≡ false → whole ≡ trace
trace_ends test body turn round p tested value trace whole below leads is ends =
    whole_turns test body turn round p tested value trace whole false below leads is ends

-- an iteration that is refused
pub turn_placed : (test : Test) (body : Step) (turn : Turn) (round : ℕ) (p tested : Progress)
    (value : ℤ) (trace whole : Trace) (found : Option Span) (e : ElabError)
    → round < TURN_LIMIT + 1 → LeadsTo test body turn round p trace whole
    → test p ≡ Ok (value, tested) → is_true value ≡ true
    → IsRefusal (computed (firing.turned tested.store)) e → found ≡ trace.here
    → IsPlaceOf e whole.here found
turn_placed test body turn round p tested value trace whole found e below leads is holds h at =
    let go = rest_of (turn_limit - round) test body turn trace in
    let after : firing.Store → Result Progress ElabError = λ s. Ok (record tested { store = s }) in
    placed_same e (place_after (turned tested) trace go).here whole.here found
    (ap (λ t. t.here)
    (whole_turns test body turn round p tested value trace whole true below leads is holds))
    (first_here (turned tested) e trace found go
    (first_refused (computed (firing.turned tested.store)) after e h) at)

-- a body that is refused
pub body_placed : (test : Test) (body : Step) (turn : Turn) (round : ℕ) (p tested : Progress)
    (value : ℤ) (store : firing.Store) (trace whole : Trace) (found : Option Span) (e : ElabError)
    → round < TURN_LIMIT + 1 → LeadsTo test body turn round p trace whole
    → test p ≡ Ok (value, tested) → is_true value ≡ true
    → computed (firing.turned tested.store) ≡ Ok store
    → IsRefusal (body (record tested { store = store })) e
    → IsPlaceOf e (turn (record tested { store = store }) trace).here found
    → IsPlaceOf e whole.here found
body_placed test body turn round p tested value store trace whole found e below leads is holds
    counted h at =
    let turning : Progress = record tested { store = store } in
    let own = turn turning trace in
    let go = rest_of (turn_limit - round) test body turn trace in
    placed_same e (place_after (turned tested) trace go).here whole.here found
    (ap (λ t. t.here)
    (whole_turns test body turn round p tested value trace whole true below leads is holds))
    (second_placed (turned tested) e trace found go turning (turned_done tested store counted)
    (first_placed (body turning) e own found
    (λ after. looped_trace (turn_limit - round) test body turn after own) h at))

-- a body that runs
pub trace_goes_on : (test : Test) (body : Step) (turn : Turn) (round : ℕ)
    (p tested after : Progress) (value : ℤ) (store : firing.Store) (trace trace' whole : Trace)
    → round < TURN_LIMIT + 1 → LeadsTo test body turn round p trace whole
    → test p ≡ Ok (value, tested) → is_true value ≡ true
    → computed (firing.turned tested.store) ≡ Ok store
    → body (record tested { store = store }) ≡ Ok after
    → trace' ≡ turn (record tested { store = store }) trace
    → LeadsTo test body turn (round + 1) after trace' whole
trace_goes_on test body turn round p tested after value store trace trace' whole below leads is
    holds counted ran moved fuel enough =
    let turning : Progress = record tested { store = store } in
    let own = turn turning trace in
    let rest : Turn = looped_trace (turn_limit - round) test body turn in
    let left : fuel ≡ turn_limit - round = omega (arith, turn_limit_is, below, enough) in
    ap (λ n. looped_trace n test body turn after trace') left
    ∙ ap (rest after) moved
    ∙ sym (whole_turns test body turn round p tested value trace whole true below leads is holds
    ∙ place_after_done (turned tested) trace (rest_of (turn_limit - round) test body turn trace)
    turning (turned_done tested store counted)
    ∙ place_after_done (body turning) own (λ a. rest a own) after ran)

-- no iteration is left
pub trace_over : (test : Test) (body : Step) (turn : Turn) (round : ℕ) (p : Progress)
    (trace whole : Trace) → TURN_LIMIT + 1 ≤ round → round ≤ TURN_LIMIT + 1
    → LeadsTo test body turn round p trace whole → whole ≡ trace
trace_over test body turn round p trace whole from to leads =
    let none : 0 + round ≡ suc turn_limit = omega (arith, turn_limit_is, from, to) in
    sym (leads 0 none)
