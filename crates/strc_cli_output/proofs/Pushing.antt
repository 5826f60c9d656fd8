-- Text that is added piece by piece.
use Rattle.std.proofs.Common.{◌≡◌, ◌∙◌, ap, ℕ, List, ◌++◌, Result, Ok, Err, append_assoc}
use Rattle.std.specs.Prelude.{OnOk}

-- two pieces are added as one
pub both : (before between after piece rest : List ℕ) → between ≡ before ++ piece
    → after ≡ between ++ rest → after ≡ before ++ (piece ++ rest)
both before between after piece rest first later =
    later ∙ ap (λ (l : List ℕ). l ++ rest) first ∙ append_assoc before piece rest

pub last : {E : Type 0} (result : Result (Unit {0}) E) (before between after piece rest : List ℕ)
    → between ≡ before ++ piece → OnOk result (after ≡ between ++ rest)
    → OnOk result (after ≡ before ++ (piece ++ rest))
last (Ok done) before between after piece rest first later =
    both before between after piece rest first later
last (Err error) before between after piece rest first later = tt
