-- Loops stay in range as their tests and turns do.
use Rattle.std.proofs.Common.{◌≡◌, subst, ℕ, zero, suc, ◌+◌, ◌<◌, ◌≤◌, ℤ, true, false}
use Rattle.std.proofs.Common.{cond, Result, Ok, ⊎_elim, arith}
use Rattle.std.specs.Bool.{MatchBool}
use Rattle.std.specs.Result.{IfOk}
use Rattle.std.proofs.lemmas.Bool.{cases_lt}
use Rattle.strc_lex_names.specs.Results.{result_and_then}
use Rattle.strc_work_meaning.specs.declared.fault.Cause.{Cause}
use Rattle.strc_work_meaning.specs.Arithmetic.{is_true, truth}
use Rattle.strc_work_meaning.specs.Firing.{Store, turned, looped, inside}
use Rattle.strc_rate.specs.PeeksSafe.{LoopIsSafe}
use Rattle.strc_rate.specs.Ranges.{IsInRange}
use Rattle.strc_rate.proofs.Results.{both_ok}
use Rattle.strc_rate.proofs.Keeping.{Given}
use Rattle.strc_rate.proofs.Unwritten.{TurnsFree, turned_holds}
use Rattle.strc_rate.proofs.Reaching.{in_then, in_plain, in_done, in_side, match_true, known_ok}
use Rattle.strc_rate.proofs.Values.{turned_stays}

-- a statement in a scope of its own
pub inside_stays : (does : Store → Result Store Cause) (store : Store) → IsInRange (does store)
    → IsInRange (inside does store)
inside_stays does store h = in_plain (does store) _ h (λ inner. tt)

-- what is known of a turn and of the turns after it, where its test held
abbrev TurnIsSafe : (fuel : ℕ) → (test_safe turn_safe : Store → Type 0)
    → (test : Store → Result (ℤ × Store) Cause) → (body : Store → Result Store Cause) → Store
    → Type 0
TurnIsSafe fuel test_safe turn_safe test body store =
    IfOk (turned store) (λ turning. turn_safe turning
    × IfOk (body turning) (LoopIsSafe fuel test_safe turn_safe test body))

-- one turn, and then those after it
turn_stays : (I J : Store → Type 0) (test_safe turn_safe : Store → Type 0)
    (test : Store → Result (ℤ × Store) Cause) (body : Store → Result Store Cause) → TurnsFree I
    → ((store : Store) → I store → turn_safe store → IsInRange (body store))
    → ((store : Store) → I store → IfOk (body store) J) → (fuel : ℕ)
    → ((store : Store) → J store → LoopIsSafe fuel test_safe turn_safe test body store
    → IsInRange (looped fuel test body store)) → (store : Store) → I store
    → TurnIsSafe fuel test_safe turn_safe test body store
    → IsInRange (result_and_then (turned store)
    (λ turning. result_and_then (body turning) (looped fuel test body)))
turn_stays I J test_safe turn_safe test body free turns kept fuel more store here safe =
    in_then (turned store) _ (λ turning. I turning × (turn_safe turning
    × IfOk (body turning) (LoopIsSafe fuel test_safe turn_safe test body)))
    (turned_stays store) (both_ok (turned store) _ _ (turned_holds I free store here) safe)
    (λ turning known.
    in_then (body turning) (looped fuel test body)
    (λ next. J next × LoopIsSafe fuel test_safe turn_safe test body next)
    (turns turning known.0 known.1.0)
    (both_ok (body turning) _ _ (kept turning known.0) known.1.1)
    (λ next later. more next later.0 later.1))

-- a loop whose test and turns keep what makes them stay in range
pub loop_stays : (I : Store → Type 0) (test_safe turn_safe : Store → Type 0)
    (test : Store → Result (ℤ × Store) Cause) (body : Store → Result Store Cause) → TurnsFree I
    → ((store : Store) → I store → test_safe store → IsInRange (test store))
    → ((store : Store) → I store → Given I (test store))
    → ((store : Store) → I store → turn_safe store → IsInRange (body store))
    → ((store : Store) → I store → IfOk (body store) I) → (fuel : ℕ) (store : Store) → I store
    → LoopIsSafe fuel test_safe turn_safe test body store → IsInRange (looped fuel test body store)
loop_stays I test_safe turn_safe test body free tests kept_test turns kept_turn zero store here
    safe = tt
loop_stays I test_safe turn_safe test body free tests kept_test turns kept_turn (suc fuel) store
    here safe =
    in_then (test store) _ (λ tested. I tested.1 × MatchBool (is_true tested.0)
    (TurnIsSafe fuel test_safe turn_safe test body tested.1) (Unit {0}))
    (tests store here safe.0) (both_ok (test store) _ _ (kept_test store here) safe.1)
    (λ tested known.
    in_side (is_true tested.0) (result_and_then (turned tested.1)
    (λ turning. result_and_then (body turning) (looped fuel test body))) (Ok tested.1)
    (λ e. turn_stays I I test_safe turn_safe test body free turns kept_turn fuel
    (λ next kept later. loop_stays I test_safe turn_safe test body free tests kept_test turns
    kept_turn fuel next kept later) tested.1 known.0
    (match_true (is_true tested.0) _ (Unit {0}) e known.1))
    (λ e. tt))

-- a loop of so many turns
pub turns_stay : (I : ℕ → Store → Type 0) (turns : ℕ) (test_safe turn_safe : Store → Type 0)
    (test : Store → Result (ℤ × Store) Cause) (body : Store → Result Store Cause)
    → ((t : ℕ) → TurnsFree (I t))
    → ((t : ℕ) (store : Store) → t < turns → I t store → test store ≡ Ok (truth true, store))
    → ((store : Store) → I turns store → test store ≡ Ok (truth false, store))
    → ((t : ℕ) (store : Store) → t < turns → I t store → turn_safe store
    → IsInRange (body store))
    → ((t : ℕ) (store : Store) → t < turns → I t store → IfOk (body store) (I (t + 1)))
    → (fuel t : ℕ) (store : Store) → t ≤ turns → I t store
    → LoopIsSafe fuel test_safe turn_safe test body store → IsInRange (looped fuel test body store)
turns_stay I turns test_safe turn_safe test body free holds ends stays kept zero t store le here
    safe = tt
turns_stay I turns test_safe turn_safe test body free holds ends stays kept (suc fuel) t store le
    here safe =
    let Turn : ℤ × Store → Type 0 = λ tested. MatchBool (is_true tested.0)
    (TurnIsSafe fuel test_safe turn_safe test body tested.1) (Unit {0}) in
    let go : ℤ × Store → Result Store Cause = λ tested. cond (is_true tested.0)
    (result_and_then (turned tested.1)
    (λ turning. result_and_then (body turning) (looped fuel test body))) (Ok tested.1) in
    ⊎_elim
    (λ (lt : t < turns).
    in_done (test store) (truth true, store) go (holds t store lt here)
    (turn_stays (I t) (I (t + 1)) test_safe turn_safe test body (free t)
    (λ turning now safe_turn. stays t turning lt now safe_turn)
    (λ turning now. kept t turning lt now) fuel
    (λ next later safe_next. turns_stay I turns test_safe turn_safe test body free holds ends stays
    kept fuel (t + 1) next (omega arith) later safe_next) store here
    (known_ok (test store) (truth true, store) Turn (holds t store lt here) safe.1)))
    (λ (ge : turns ≤ t).
    let last : t ≡ turns = omega arith in
    in_done (test store) (truth false, store) go
    (ends store (subst (λ n. I n store) last here)) tt)
    (cases_lt t turns)
