-- One list of a parcel is another one.
use Rattle.std.proofs.Common.{◌≡◌, ◌<◌, ℕ, ℤ, Bool, List, [], map, length, set, get_or, ap, ◌∙◌}
use Rattle.std.proofs.Common.{Option, arith, ◌++◌, ◌∷◌, ◌+◌, take}
use Rattle.std.proofs.Common.{replicate, add-one, sym, subst, ◌-◌}
use Rattle.std.proofs.lemmas.List.{map-set, get_or-map, length-map, map-append, replicate_more}
use Rattle.std.proofs.Math.Seq.{map-set_same, take-suc-set}
use Rattle.std.specs.Global.{Vec}
use Rattle.std.specs.Vec.{vec_items, vec_capacity}
use Rattle.strc_work_meaning.specs.declared.word.Word.{Word}
use Rattle.strc_sched_outcome.specs.declared.stop.Stop.{Stop}
use Rattle.strc_stage_core.specs.Parcels.{ParcelView, parcel, load_of, with_block, with_words}
use Rattle.strc_stage_core.specs.Parcels.{block_at}
use Rattle.strc_stage_core.specs.Parcels.{filled}

module _ {X : Type 0} (lists : List (Vec X)) (at : ℕ) (old new : Vec X)
    (was : old ≡ get_or lists at old) where
  short : at < length (map vec_items lists) → at < length lists
  short within = let e = length-map lists vec_items in omega arith

  -- What a list holds, and what room it has.
  items_at : at < length (map vec_items lists) → get_or (map vec_items lists) at [] ≡ vec_items old
  items_at within = get_or-map vec_items lists at old [] (short within) ∙ ap vec_items (sym was)

  items_set : map vec_items (set lists at new) ≡ set (map vec_items lists) at (vec_items new)
  items_set = map-set vec_items lists at new

  capacities_set : vec_capacity new ≡ vec_capacity old
      → map vec_capacity (set lists at new) ≡ map vec_capacity lists
  capacities_set same = map-set_same vec_capacity lists at new old (same ∙ ap vec_capacity was)

module _ (blocks : List (Vec ℤ)) (words : List (Vec Word)) (stop : Option Stop) (last : Bool)
    (now : ParcelView) (view : parcel (load_of blocks words) stop last ≡ now) where
  -- What is in a block, and a parcel with another block of the same room.
  pub block_is : (at : ℕ) (old : Vec ℤ) → at < length now.load.blocks → old ≡ get_or blocks at old
      → block_at now.load at ≡ vec_items old
  block_is at old within was = subst
      (λ (n : ParcelView). at < length n.load.blocks → block_at n.load at ≡ vec_items old)
      view (items_at blocks at old old was) within

  pub block_set : (at : ℕ) (old new : Vec ℤ) → old ≡ get_or blocks at old
      → vec_capacity new ≡ vec_capacity old
      → parcel (load_of (set blocks at new) words) stop last
      ≡ parcel (with_block now.load at (vec_items new)) now.stop now.last
  block_set at old new was same = subst
      (λ (n : ParcelView). parcel (load_of (set blocks at new) words) stop last
      ≡ parcel (with_block n.load at (vec_items new)) n.stop n.last)
      view
      (λ i. parcel (record {
        blocks = items_set blocks at old new was i;
        rooms = capacities_set blocks at old new was same i;
        words = map vec_items words;
      }) stop last)

  -- A parcel with as many more items in a block as it has room for.
  pub filled_is : (at : ℕ) (old new : Vec ℤ) (items : List ℤ) → at < length blocks
      → old ≡ get_or blocks at old → vec_capacity new ≡ vec_capacity old
      → vec_items new ≡ vec_items old ++ take (vec_capacity old - length (vec_items old)) items
      → parcel (load_of (set blocks at new) words) stop last
      ≡ parcel (filled now.load at items) now.stop now.last
  filled_is at old new items within was same more =
      let held = items_at blocks at old old was
      (let e = length-map blocks (λ (v : Vec ℤ). vec_items v) in omega arith) in
      let room = get_or-map vec_capacity blocks at old 0 within ∙ ap vec_capacity (sym was) in
      subst (λ (n : ParcelView). parcel (load_of (set blocks at new) words) stop last
      ≡ parcel (filled n.load at items) n.stop n.last)
      view
      ((λ i. parcel (record {
        blocks = items_set blocks at old new was i;
        rooms = capacities_set blocks at old new was same i;
        words = map vec_items words;
      }) stop last)
      ∙ ap (λ l. parcel (with_block (load_of blocks words) at l) stop last)
      (more
      ∙ (λ i. sym held i ++ take (sym room i - length (sym held i)) items)))

  -- The words of a tape, and a parcel with others.
  -- A parcel with other words of a tape.
  pub words_set : (at : ℕ) (old new : Vec Word) → old ≡ get_or words at old
      → parcel (load_of blocks (set words at new)) stop last
      ≡ parcel (with_words now.load at (vec_items new)) now.stop now.last
  words_set at old new was = subst
      (λ (n : ParcelView). parcel (load_of blocks (set words at new)) stop last
      ≡ parcel (with_words n.load at (vec_items new)) n.stop n.last)
      view
      (λ i. parcel (record {
        blocks = map vec_items blocks;
        rooms = map vec_capacity blocks;
        words = items_set words at old new was i;
      }) stop last)

-- One list more is emptied, whose memory stays.
pub clears : {X : Type 0} (lists : List (Vec X)) (i : ℕ) (old new : Vec X)
    (start lent : List (Vec X))
    → (map vec_items (take i lists) ≡ replicate i [])
    × (map vec_capacity lists ≡ map vec_capacity start)
    → lent ≡ start → i < length lent → old ≡ get_or lists i old → vec_items new ≡ []
    → vec_capacity new ≡ vec_capacity (get_or lists i old)
    → (map vec_items (take (i + 1) (set lists i new)) ≡ replicate (i + 1) [])
    × (map vec_capacity (set lists i new) ≡ map vec_capacity start)
clears {X} lists i old new start lent so is_start below was none same =
    let within : i < length lists =
    let e = ap length so.1 in
    let l = ap length is_start in
    let f = length-map lists (λ (v : Vec X). vec_capacity v) in
    let g = length-map start (λ (v : Vec X). vec_capacity v) in
    omega arith in (
      ap (λ n. map vec_items (take n (set lists i new))) (add-one i)
          ∙ ap (map vec_items) (take-suc-set lists i new within)
          ∙ map-append vec_items (take i lists) (new ∷ [])
          ∙ ap (λ l. l ++ vec_items new ∷ []) so.0
          ∙ ap (λ (y : List X). replicate i [] ++ y ∷ []) none
          ∙ replicate_more i [],
      capacities_set lists i old new was (same ∙ ap vec_capacity (sym was)) ∙ so.1,
    )
