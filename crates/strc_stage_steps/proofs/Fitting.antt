-- Blocks of a parcel that are too many, or too few.
use Rattle.std.proofs.Common.{◌≡◌, refl, ap, sym, ◌∙◌, ℕ, Bool, true, false, ◌&&◌, ℤ, List, [], ◌∷◌}
use Rattle.std.proofs.Common.{length, arith}
use Rattle.strc_stage_steps.specs.Blocks.{blocks_fit, block_fits}
use Rattle.strc_stage_steps.specs.declared.stage.Block.{Block}

and_false : (one : Bool) → (one && false) ≡ false
and_false true = refl
and_false false = refl

pub none_fit : (blocks : List Block) (items : List (List ℤ)) (rooms : List ℕ)
    → (length items ≡ length blocks → ⊥) → false ≡ blocks_fit blocks items rooms
none_fit [] [] rooms differ = absurd (differ refl)
none_fit [] (some ∷ items) rooms differ = refl
none_fit (block ∷ blocks) [] rooms differ = refl
none_fit (block ∷ blocks) (some ∷ items) [] differ = refl
none_fit (block ∷ blocks) (some ∷ items) (room ∷ rooms) differ =
    sym (ap (λ b. block_fits block some room && b)
    (sym (none_fit blocks items rooms (λ same. differ (let e = same in omega (arith, e)))))
    ∙ and_false (block_fits block some room))
