-- When an actor may step.
use Rattle.std.proofs.Common.{◌≡◌, refl, ℕ, ◌<◌, Bool, true, false, ◌||◌, nat_le}
use Rattle.std.proofs.Common.{sym, true≢false}
use Rattle.std.proofs.lemmas.Bool.{lt-leb}

-- One that is unfinished and has rounds left may.
pub not_finished : (finished : Bool) (rounds taken : ℕ) → finished ≡ false → taken < rounds
    → (finished || nat_le rounds taken) ≡ false
not_finished true rounds taken going left = absurd (true≢false going)
not_finished false rounds taken going left = lt-leb rounds taken left

pub has_finished : (finished : Bool) (rounds taken : ℕ) → finished ≡ true
    → (finished || nat_le rounds taken) ≡ true
has_finished true rounds taken ended = refl
has_finished false rounds taken ended = absurd (true≢false (sym ended))
