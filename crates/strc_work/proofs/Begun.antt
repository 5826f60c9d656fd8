-- The slots at the beginning of a call.
use Rattle.std.proofs.Common.{◌≡◌, ℕ, zero, suc, ◌+◌, ◌≤◌, ℤ, pos, List, [], ◌∷◌, ◌++◌, length}
use Rattle.std.proofs.Common.{take, drop}
use Rattle.std.proofs.Common.{set, refl, ap, ◌∙◌, arith, append_assoc}
use Rattle.strc_work.specs.Calls.{begun_slots}

-- the answer is written before what stands behind it
answered : (n : ℕ) (slots behind : List ℤ) → suc (suc n) ≤ length slots
    → set (set (take (suc (suc n)) slots ++ behind) n (pos 0)) (suc n) (pos 0)
    ≡ take n slots ++ (pos 0 ∷ pos 0 ∷ behind)
answered zero [] behind le = absurd (omega (arith, le))
answered zero (a ∷ []) behind le = absurd (omega (arith, le))
answered zero (a ∷ b ∷ rest) behind le = refl
answered (suc n) [] behind le = absurd (omega (arith, le))
answered (suc n) (a ∷ rest) behind le =
    ap (λ l. a ∷ l) (answered n rest behind (omega (arith, le)))

pub begun_is : (fields count : ℕ) (values slots : List ℤ) (at next k : ℕ)
    → fields + (2 + count) ≤ length slots → length values ≡ count → at ≡ fields + 2
    → next ≡ fields + 1 → k ≡ count
    → set (set ((take at slots ++ values) ++ drop (at + k) slots) fields (pos 0)) next (pos 0)
    ≡ begun_slots fields values slots
begun_is fields count values slots at next k own size at_is next_is k_is =
    let two : at ≡ suc (suc fields) = omega (arith, at_is) in
    let one : next ≡ suc fields = omega (arith, next_is) in
    let after : at + k ≡ fields + (2 + length values) = omega (arith, size, k_is, at_is) in
    let rest = drop (fields + (2 + length values)) slots in
    ap (λ n. set (set ((take n slots ++ values) ++ drop (at + k) slots) fields (pos 0)) next
    (pos 0)) two
    ∙ ap (λ n. set (set ((take (suc (suc fields)) slots ++ values) ++ drop n slots) fields (pos 0))
    next (pos 0)) after
    ∙ ap (λ n. set (set ((take (suc (suc fields)) slots ++ values) ++ rest) fields (pos 0)) n
    (pos 0)) one
    ∙ ap (λ l. set (set l fields (pos 0)) (suc fields) (pos 0))
    (append_assoc (take (suc (suc fields)) slots) values rest)
    ∙ answered fields slots (values ++ rest) (omega (arith, own))
