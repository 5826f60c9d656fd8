-- Blocks of a load that are filled and emptied.
use Rattle.std.proofs.Common.{◌≡◌, refl, sym, ap, ◌∙◌, subst, ℕ, zero, suc, ◌+◌, ◌-◌, ℤ, List, []}
use Rattle.std.proofs.Common.{◌∷◌}
use Rattle.std.proofs.Common.{◌++◌, set, get_or, take, length, replicate, arith, append_assoc}
use Rattle.std.proofs.lemmas.List.{length-set, length-append}
use Rattle.strc_stage_core.specs.Parcels.{Load, block_at, with_block, filled, emptied}
use Rattle.strc_stage_steps.specs.declared.crossing_items.Crossing.{Crossing}
use Rattle.strc_stage_steps.specs.Steps.{load_entered}

take_two : (room : ℕ) (front back : List ℤ)
    → take room front ++ take (room - length front) back ≡ take room (front ++ back)
take_two zero [] back = ap (λ n. take n back) (let e : 0 - 0 ≡ 0 = omega arith in e)
take_two (suc room) [] back =
    ap (λ n. take n back) (let e : suc room - 0 ≡ suc room = omega arith in e)
take_two zero (item ∷ front) back =
    ap (λ n. take n back) (let e : 0 - suc (length front) ≡ 0 = omega arith in e)
take_two (suc room) (item ∷ front) back = ap (λ l. item ∷ l)
    (ap (λ n. take room front ++ take n back)
    (let e : suc room - suc (length front) ≡ room - length front = omega arith in e)
    ∙ take_two room front back)

left_over : (room : ℕ) (front : List ℤ) → room - length (take room front) ≡ room - length front
left_over zero [] = refl
left_over (suc room) [] = refl
left_over zero (item ∷ front) = omega arith
left_over (suc room) (item ∷ front) =
    let e = left_over room front in omega (arith, e)

-- A block that was filled and is filled again.
twice : (own front back : List ℤ) (room : ℕ)
    → (own ++ take (room - length own) front)
    ++ take (room - length (own ++ take (room - length own) front)) back
    ≡ own ++ take (room - length own) (front ++ back)
twice own front back room =
    let free = room - length own in
    let more = take free front in
    let left : room - length (own ++ more) ≡ free - length front =
    let a = length-append own more in
    let b = left_over free front in
    omega (arith, a, b) in
    ap (λ n. (own ++ more) ++ take n back) left
    ∙ append_assoc own more (take (free - length front) back)
    ∙ ap (λ l. own ++ l) (take_two free front back)

abbrev more_in : (blocks : List (List ℤ)) → (block room : ℕ) → List ℤ → List ℤ
more_in blocks block room items =
    get_or blocks block [] ++ take (room - length (get_or blocks block [])) items

blocks_twice : (blocks : List (List ℤ)) (block room : ℕ) (front back : List ℤ)
    → set (set blocks block (more_in blocks block room front)) block
    (more_in (set blocks block (more_in blocks block room front)) block room back)
    ≡ set blocks block (more_in blocks block room (front ++ back))
blocks_twice [] block room front back = refl
blocks_twice (own ∷ others) zero room front back = ap (λ l. l ∷ others) (twice own front back room)
blocks_twice (own ∷ others) (suc block) room front back =
    ap (λ l. own ∷ l) (blocks_twice others block room front back)

pub filled_twice : (load : Load) (block : ℕ) (front back : List ℤ)
    → filled (filled load block front) block back ≡ filled load block (front ++ back)
filled_twice load block front back = ap (λ blocks. record {
  blocks = blocks;
  rooms = load.rooms;
  words = load.words;
}) (blocks_twice load.blocks block (get_or load.rooms block 0) front back)

-- It makes no difference for an emptied load what was taken out before.
pub emptied_entered : (entering : List Crossing) (load : Load)
    → emptied (load_entered entering load) ≡ emptied load
emptied_entered [] load = refl
emptied_entered (crossing ∷ others) load =
    emptied_entered others (with_block load crossing.block [])
    ∙ ap (λ n. record {
      blocks = replicate n [];
      rooms = load.rooms;
      words = replicate (length load.words) [];
    }) (length-set load.blocks crossing.block [])
