-- Places are counted.
use Rattle.std.proofs.Common.{◌≡◌, ℕ, zero, suc, ◌+◌, ◌-◌, ◌*◌, ◌<◌, ◌≤◌, ◌^◌, ℤ, pos, negsuc}
use Rattle.std.proofs.Common.{◌+ℤ◌, ◌-ℤ◌, ◌*ℤ◌, Ok, Err, refl, ap, ◌∙◌, cond, arith, Result}
use Rattle.std.specs.Int.RustNames.{FitsSigned}
use Rattle.std.proofs.lemmas.Int.{int_wrap_fits, ints}
use Rattle.std.proofs.lemmas.Bool.Decides.{Decides-int_eq}
use mir.Syntax.{w32}
use Rattle.strc_work_meaning.specs.Arithmetic.{wrapped}
use Rattle.strc_lex_names.specs.Results.{result_and_then}
use Rattle.strc_emit_c.specs.Meaning.{Stop, Undefined, as_int}
use Rattle.strc_emit_meaning.proofs.Numbers.{small_int, less}
use Rattle.strc_emit_moves.specs.declared.places.Phase.{Phase}
use Rattle.strc_emit_moves.specs.declared.places.Phase.TheVariants as phase
use Rattle.strc_emit_passes.specs.Meaning.{number_of}
use Rattle.strc_emit_runs.specs.Places.{before_it, IsLater, PlacesAreCounted}
use Rattle.strc_emit_runs.specs.Places.{FirstPlacesAreCounted, moved_in, moved_next}

number_is : (when : Phase) (i : ℕ) → IsLater when i → i < 2 ^ 31
    → number_of when (pos i) ≡ Ok (pos (before_it when i))
number_is phase.Startup i later small =
    ap as_int (less i 1 later) ∙ small_int (i - 1) (omega (arith, small))
number_is phase.Round i later small = refl

pub places_are_counted : PlacesAreCounted
places_are_counted items i later small fits =
    let n : ℕ = before_it items.phase i in
    let last : ℤ → Result ℤ Stop = λ far. as_int (pos items.after +ℤ far) in
    ap (λ r. result_and_then r (λ number.
    result_and_then (as_int (pos items.each *ℤ number)) last)) (number_is items.phase i later small)
    ∙ ap (λ r. result_and_then r last) (small_int (items.each * n) (omega (arith, fits)))
    ∙ small_int (items.after + items.each * n) fits

-- numbers below 0 that an int holds
minus_int : (n : ℕ) → n < 2 ^ 31 → as_int (negsuc n) ≡ Ok (negsuc n)
minus_int n small =
    let fits : FitsSigned w32 (negsuc n) = record { sfits = small } in
    ap (λ t. cond t (Ok (negsuc n)) (Err Undefined))
    ((Decides-int_eq (wrapped (negsuc n)) (negsuc n)).1 (int_wrap_fits w32 (negsuc n) fits))

before_none : as_int (pos 0 -ℤ pos 1) ≡ Ok (negsuc 0)
before_none =
    let minus : pos 0 -ℤ pos 1 ≡ negsuc 0 = omega (arith, ints) in
    ap as_int minus ∙ minus_int 0 (omega arith)

-- so many less
back_by : (after each : ℕ) → each ≤ after → after < 2 ^ 31
    → result_and_then (as_int (pos each *ℤ negsuc 0)) (λ far. as_int (pos after +ℤ far))
    ≡ Ok (pos (after - each))
back_by after zero le small =
    let none : pos 0 *ℤ negsuc 0 ≡ pos 0 = omega (arith, ints) in
    let same : pos after +ℤ pos 0 ≡ pos (after - 0) = omega (arith, ints) in
    ap (λ z. result_and_then (as_int z) (λ far. as_int (pos after +ℤ far))) none
    ∙ ap (λ r. result_and_then r (λ far. as_int (pos after +ℤ far))) (small_int 0 (omega arith))
    ∙ ap as_int same
    ∙ small_int (after - 0) (omega (arith, small))
back_by after (suc k) le small =
    let minus : pos (suc k) *ℤ negsuc 0 ≡ negsuc k = omega (arith, ints) in
    let left : pos after +ℤ negsuc k ≡ pos (after - suc k) = omega (arith, ints, le) in
    ap (λ z. result_and_then (as_int z) (λ far. as_int (pos after +ℤ far))) minus
    ∙ ap (λ r. result_and_then r (λ far. as_int (pos after +ℤ far)))
    (minus_int k (omega (arith, le, small)))
    ∙ ap as_int left
    ∙ small_int (after - suc k) (omega (arith, small))

pub first_places_are_counted : FirstPlacesAreCounted
first_places_are_counted items is le small =
    let last : ℤ → Result ℤ Stop = λ far. as_int (pos items.after +ℤ far) in
    ap (λ w. result_and_then (number_of w (pos 0)) (λ number.
    result_and_then (as_int (pos items.each *ℤ number)) last)) is
    ∙ ap (λ r. result_and_then r (λ number.
    result_and_then (as_int (pos items.each *ℤ number)) last)) before_none
    ∙ back_by items.after items.each le small

-- one firing more
pub moved_more : (when : Phase) (first later firings : ℕ)
    → moved_in when first later (firings + 1)
    ≡ moved_in when first later firings + moved_next when first later firings
moved_more phase.Startup first later zero = omega arith
moved_more phase.Startup first later (suc firings) =
    let number : suc firings + 1 ≡ suc (suc firings) = omega arith in
    ap (λ n. moved_in phase.Startup first later n) number ∙ omega arith
moved_more phase.Round first later firings = omega arith
