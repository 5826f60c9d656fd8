-- When toys may step.
use Rattle.std.proofs.Common.{◌≡◌, refl, sym, ℕ, ◌<◌, Bool, true, false, true≢false}
use Rattle.std.proofs.lemmas.Bool.{lt-ltb}
use Rattle.strc_tests_rings.specs.Toys.{is_done}

pub goes_on : (finished : Bool) (taken rounds : ℕ) → finished ≡ false → taken < rounds
    → is_done finished taken rounds ≡ false
goes_on finished taken rounds going less = rw (going, lt-ltb taken rounds less) refl

pub has_ended : (finished : Bool) (taken rounds : ℕ) → finished ≡ true
    → is_done finished taken rounds ≡ true
has_ended true taken rounds e = refl
has_ended false taken rounds e = absurd (true≢false (sym e))
