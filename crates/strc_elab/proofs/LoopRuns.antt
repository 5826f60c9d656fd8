-- Loops of a body, iteration by iteration.
use Rattle.std.proofs.Common.{◌≡◌, ℕ, ℤ, suc, ◌+◌, ◌-◌, ◌<◌, ◌≤◌, true, false, cond, Result, Ok}
use Rattle.std.proofs.Common.{Err, sym, ap, ◌∙◌, arith}
use Rattle.strc_lex_names.specs.Results.{result_and_then}
use Rattle.strc_work_meaning.specs.Arithmetic.{is_true}
use Rattle.strc_work_meaning.specs.Firing as firing
use Rattle.strc_work_meaning.specs.Firing.{turn_limit}
use Rattle.strc_work_meaning.specs.declared.fault.Cause.TheVariants as causes
use Rattle.strc_elab_statements.specs.Statements.{computed}
use Rattle.strc_elab.specs.Elaboration.{Progress, turned, looped}
use Rattle.strc_elab_statements.specs.Answers.{IsRefusal}
use Rattle.strc_elab_statements.specs.declared.error.ElabError.{ElabError}
use Rattle.strc_elab_statements.specs.declared.error.ElabErrorKind.TheVariants as refused
use Rattle.strc_elab_statements.proofs.Refusals.{refused_same, first_refused, second_refused}
use Rattle.strc_work_meaning.specs.declared.fault.TheConstants.{TURN_LIMIT}
use Rattle.strc_elab.proofs.Turns.{turn_limit_is}

-- what a loop tests, and what it repeats
abbrev pub Test : Type 0
Test = Progress → Result (ℤ × Progress) ElabError

abbrev pub Step : Type 0
Step = Progress → Result Progress ElabError

-- from a round on, a loop comes to what the whole loop comes to
abbrev pub Leads : Test → Step → (round : ℕ) → Progress → Result Progress ElabError → Type 0
Leads test body round p whole = (fuel : ℕ) → fuel + round ≡ suc turn_limit
    → looped fuel test body p ≡ whole

-- one iteration of a loop, once the condition has its value
abbrev turn_of : (fuel : ℕ) → Test → Step → ℤ × Progress → Result Progress ElabError
turn_of fuel test body tested = cond (is_true tested.0)
    (result_and_then (turned tested.1) (λ turning. result_and_then (body turning)
    (looped fuel test body))) (Ok tested.1)

-- how the whole loop goes on from a round
whole_is : (test : Test) (body : Step) (round : ℕ) (p : Progress)
    (whole : Result Progress ElabError) → round < TURN_LIMIT + 1 → Leads test body round p whole
    → whole ≡ result_and_then (test p) (turn_of (turn_limit - round) test body)
whole_is test body round p whole below leads =
    let enough : suc (turn_limit - round) + round ≡ suc turn_limit =
    omega (arith, turn_limit_is, below) in sym (leads (suc (turn_limit - round)) enough)

whole_turns : (test : Test) (body : Step) (round : ℕ) (p tested : Progress) (value : ℤ)
    (whole : Result Progress ElabError) → round < TURN_LIMIT + 1 → Leads test body round p whole
    → test p ≡ Ok (value, tested) → is_true value ≡ true
    → whole ≡ result_and_then (turned tested)
    (λ turning. result_and_then (body turning) (looped (turn_limit - round) test body))
whole_turns test body round p tested value whole below leads is holds =
    whole_is test body round p whole below leads
    ∙ ap (λ r. result_and_then r (turn_of (turn_limit - round) test body)) is
    ∙ ap (λ b. cond b (result_and_then (turned tested)
    (λ turning. result_and_then (body turning) (looped (turn_limit - round) test body)))
    (Ok tested)) holds

pub turned_done : (tested : Progress) (store : firing.Store)
    → computed (firing.turned tested.store) ≡ Ok store
    → turned tested ≡ Ok (record tested { store = store })
turned_done tested store turn =
    let after : firing.Store → Result Progress ElabError = λ s. Ok (record tested { store = s }) in
    ap (λ r. result_and_then r after) turn

-- a condition that is refused
pub test_refused : (test : Test) (body : Step) (round : ℕ) (p : Progress)
    (whole : Result Progress ElabError) (e : ElabError) → round < TURN_LIMIT + 1
    → Leads test body round p whole → IsRefusal (test p) e → IsRefusal whole e
test_refused test body round p whole e below leads h =
    let go = turn_of (turn_limit - round) test body in
    refused_same (result_and_then (test p) go) whole e
    (whole_is test body round p whole below leads) (first_refused (test p) go e h)

-- a condition that doesn't hold
pub loop_ends : (test : Test) (body : Step) (round : ℕ) (p tested : Progress) (value : ℤ)
    (whole : Result Progress ElabError) → round < TURN_LIMIT + 1 → Leads test body round p whole
    → test p ≡ Ok (value, tested) → is_true value ≡ false → whole ≡ Ok tested
loop_ends test body round p tested value whole below leads is ends =
    whole_is test body round p whole below leads
    ∙ ap (λ r. result_and_then r (turn_of (turn_limit - round) test body)) is
    ∙ ap (λ b. cond b (result_and_then (turned tested)
    (λ turning. result_and_then (body turning) (looped (turn_limit - round) test body)))
    (Ok tested)) ends

-- an iteration that is refused
pub turn_refused : (test : Test) (body : Step) (round : ℕ) (p tested : Progress) (value : ℤ)
    (whole : Result Progress ElabError) (e : ElabError) → round < TURN_LIMIT + 1
    → Leads test body round p whole → test p ≡ Ok (value, tested) → is_true value ≡ true
    → IsRefusal (computed (firing.turned tested.store)) e → IsRefusal whole e
turn_refused test body round p tested value whole e below leads is holds h =
    let go : Step = λ turning. result_and_then (body turning)
    (looped (turn_limit - round) test body) in
    let after : firing.Store → Result Progress ElabError = λ s. Ok (record tested { store = s }) in
    refused_same (result_and_then (turned tested) go) whole e
    (whole_turns test body round p tested value whole below leads is holds)
    (first_refused (turned tested) go e (first_refused
    (computed (firing.turned tested.store)) after e h))

-- a body that is refused
pub body_refused : (test : Test) (body : Step) (round : ℕ) (p tested : Progress) (value : ℤ)
    (store : firing.Store) (whole : Result Progress ElabError) (e : ElabError)
    → round < TURN_LIMIT + 1 → Leads test body round p whole → test p ≡ Ok (value, tested)
    → is_true value ≡ true
    → computed (firing.turned tested.store) ≡ Ok store
    → IsRefusal (body (record tested { store = store })) e → IsRefusal whole e
body_refused test body round p tested value store whole e below leads is holds turn h =
    let go : Step = λ turning. result_and_then (body turning)
    (looped (turn_limit - round) test body) in
    let turning : Progress = record tested { store = store } in
    refused_same (result_and_then (turned tested) go) whole e
    (whole_turns test body round p tested value whole below leads is holds)
    (second_refused (turned tested) go turning e (turned_done tested store turn)
    (first_refused (body turning) (looped (turn_limit - round) test body) e h))

-- a body that runs
pub loop_goes_on : (test : Test) (body : Step) (round : ℕ) (p tested after : Progress) (value : ℤ)
    (store : firing.Store) (whole : Result Progress ElabError) → round < TURN_LIMIT + 1
    → Leads test body round p whole → test p ≡ Ok (value, tested) → is_true value ≡ true
    → computed (firing.turned tested.store) ≡ Ok store
    → body (record tested { store = store }) ≡ Ok after → Leads test body (round + 1) after whole
loop_goes_on test body round p tested after value store whole below leads is holds turn ran fuel
    enough =
    let go : Step = λ turning. result_and_then (body turning)
    (looped (turn_limit - round) test body) in
    let left : fuel ≡ turn_limit - round = omega (arith, turn_limit_is, below, enough) in
    ap (λ n. looped n test body after) left
    ∙ sym (whole_turns test body round p tested value whole below leads is holds
    ∙ ap (λ r. result_and_then r go) (turned_done tested store turn)
    ∙ ap (λ r. result_and_then r (looped (turn_limit - round) test body)) ran)

-- no iteration is left
pub loop_over : (test : Test) (body : Step) (round : ℕ) (p : Progress)
    (whole : Result Progress ElabError) → TURN_LIMIT + 1 ≤ round → round ≤ TURN_LIMIT + 1
    → Leads test body round p whole → whole ≡ Err (refused.ConstFault causes.Turns)
loop_over test body round p whole from to leads =
    let none : 0 + round ≡ suc turn_limit = omega (arith, turn_limit_is, from, to) in
    sym (leads 0 none)
