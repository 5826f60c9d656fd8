-- Numbers that an int holds, and places in arrays.
use Rattle.std.proofs.Common.{◌≡◌, ℕ, ◌+◌, ◌-◌, ◌<◌, ◌≤◌, ◌^◌, pos, ◌-ℤ◌}
use Rattle.std.proofs.Common.{cond, Ok, Err, ap, arith}
use Rattle.std.specs.Int.RustNames.{FitsSigned}
use Rattle.std.proofs.lemmas.Int.{int_wrap_fits, ints}
use Rattle.std.proofs.lemmas.Bool.{lt-ltb}
use Rattle.std.proofs.lemmas.Bool.Decides.{Decides-int_eq}
use mir.Syntax.{w32}
use Rattle.strc_work_meaning.specs.Arithmetic.{wrapped}
use Rattle.strc_emit_c.specs.Meaning.{Undefined, as_int, place_within}

pub small_int : (n : ℕ) → n < 2 ^ 31 → as_int (pos n) ≡ Ok (pos n)
small_int n small =
    let fits : FitsSigned w32 (pos n) = record { sfits = small } in
    ap (λ t. cond t (Ok (pos n)) (Err Undefined))
    ((Decides-int_eq (wrapped (pos n)) (pos n)).1 (int_wrap_fits w32 (pos n) fits))

pub less : (a b : ℕ) → b ≤ a → pos a -ℤ pos b ≡ pos (a - b)
less a b le = omega (arith, ints)

pub place_is : (room from place : ℕ) → from + place < room
    → place_within room from (pos place) ≡ Ok (from + place)
place_is room from place lt = ap (λ t. cond t (Ok (from + place)) (Err Undefined))
    (lt-ltb (from + place) room lt)
