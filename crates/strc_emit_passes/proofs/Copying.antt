-- Items that are copied between two arrays, and moves whose places are known.
use Rattle.std.proofs.Common.{◌≡◌, ℕ, zero, suc, ◌+◌, ◌<◌, ◌≤◌, ◌^◌, ℤ, pos, ◌+ℤ◌, ◌*ℤ◌, Bool, true}
use Rattle.std.proofs.Common.{false, cond, List, [], ◌∷◌, ◌++◌, Result, Ok, Err, refl, sym}
use Rattle.std.proofs.Common.{ap, ◌∙◌, arith, nat_le}
use Rattle.std.specs.Ordering.{int_eq}
use Rattle.std.proofs.lemmas.Bool.{ne_eqb, le-leb, and_from}
use Rattle.std.proofs.lemmas.Int.{ints}
use Rattle.strc_lex_names.specs.Results.{result_and_then}
use Rattle.strc_work_meaning.specs.Arithmetic.{wrapped}
use Rattle.strc_emit_c.specs.Meaning.{Cell, Field, Local, Counted, Item, same_cell, Memory, written}
use Rattle.strc_emit_c.specs.Meaning.{Stop, Undefined, as_int, place_within}
use Rattle.strc_emit_meaning.proofs.Cells.{same_cell_is, kept_in, put_in}
use Rattle.strc_emit_meaning.proofs.Numbers.{small_int, place_is}
use Rattle.strc_emit_moves.specs.declared.places.Items.{Items}
use Rattle.strc_emit_moves.specs.Moves.{later}
use Rattle.strc_emit_passes.specs.Moves.{Move, Pass}
use Rattle.strc_emit_passes.specs.Meaning.{Passing, Surroundings, number_of, place_value}
use Rattle.strc_emit_passes.specs.Meaning.{item_place, copied, may_copy, copied_within, move_done}
use Rattle.strc_emit_passes.specs.Meaning.{moves_done}

abbrev place_in : Cell → ℕ
place_in (Field node slot) = 0
place_in (Local slot) = 0
place_in (Counted counter) = 0
place_in (Item channel place) = place

abbrev channel_in : Cell → ℕ
channel_in (Field node slot) = 0
channel_in (Local slot) = 0
channel_in (Counted counter) = 0
channel_in (Item channel place) = channel

pub cells_apart : (a b : Cell) → (a ≡ b → ⊥) → same_cell a b ≡ false
cells_apart a b differ = by (same_cell a b) refl
  where
    by : (t : Bool) → same_cell a b ≡ t → t ≡ false
    by true e = absurd (differ (same_cell_is a b e))
    by false e = refl

pub places_apart : (channel place other : ℕ) → (place ≡ other → ⊥)
    → Item channel place ≡ Item channel other → ⊥
places_apart channel place other differ e = differ (ap place_in e)

pub channels_apart : (channel place other there : ℕ) → (channel ≡ other → ⊥)
    → Item channel place ≡ Item other there → ⊥
channels_apart channel place other there differ e = differ (ap channel_in e)

-- what is copied
pub copied_kept : (to place from there count : ℕ) (memory : Memory) (cell : Cell)
    → ((k : ℕ) → k < count → cell ≡ Item to (place + k) → ⊥)
    → (copied to place from there count memory).cells cell ≡ memory.cells cell
copied_kept to place from there zero memory cell none = refl
copied_kept to place from there (suc count) memory cell none =
    let here : place + 0 ≡ place = omega arith in
    copied_kept to (place + 1) from (there + 1) count
    (written (Item to place) (memory.cells (Item from there)) memory) cell
    (λ k lt e. let next : place + 1 + k ≡ place + suc k = omega arith in
    none (suc k) (omega (arith, lt)) (e ∙ ap (Item to) next))
    ∙ kept_in (Item to place) cell (memory.cells (Item from there)) memory
    (cells_apart (Item to place) cell
    (λ e. none 0 (omega arith) (sym e ∙ ap (Item to) (sym here))))

pub copied_at : (to place from there count : ℕ) (memory : Memory) → (to ≡ from → ⊥) → (k : ℕ)
    → k < count → (copied to place from there count memory).cells (Item to (place + k))
    ≡ memory.cells (Item from (there + k))
copied_at to place from there zero memory differ k lt = absurd (omega (arith, lt))
copied_at to place from there (suc count) memory differ zero lt =
    let first : Memory = written (Item to place) (memory.cells (Item from there)) memory in
    let here : place + 0 ≡ place = omega arith in
    let at : there ≡ there + 0 = omega arith in
    ap (λ p. (copied to (place + 1) from (there + 1) count first).cells (Item to p)) here
    ∙ copied_kept to (place + 1) from (there + 1) count first (Item to place)
    (λ k less. places_apart to place (place + 1 + k) (λ e. omega (arith, e)))
    ∙ put_in (Item to place) (memory.cells (Item from there)) memory
    ∙ ap (λ p. memory.cells (Item from p)) at
copied_at to place from there (suc count) memory differ (suc k) lt =
    let first : Memory = written (Item to place) (memory.cells (Item from there)) memory in
    let next : place + suc k ≡ place + 1 + k = omega arith in
    let at : there + 1 + k ≡ there + suc k = omega arith in
    ap (λ p. (copied to (place + 1) from (there + 1) count first).cells (Item to p)) next
    ∙ copied_at to (place + 1) from (there + 1) count first differ k (omega (arith, lt))
    ∙ kept_in (Item to place) (Item from (there + 1 + k)) (memory.cells (Item from there)) memory
    (cells_apart (Item to place) (Item from (there + 1 + k))
    (channels_apart to place from (there + 1 + k) differ))
    ∙ ap (λ p. memory.cells (Item from p)) at

pub copied_words : (to place from there count : ℕ) (memory : Memory)
    → (copied to place from there count memory).words ≡ memory.words
copied_words to place from there zero memory = refl
copied_words to place from there (suc count) memory =
    copied_words to (place + 1) from (there + 1) count
    (written (Item to place) (memory.cells (Item from there)) memory)

-- a place after others
abbrev value_in : ℤ → Result ℤ Stop → ℤ
value_in other (Ok value) = value
value_in other (Err why) = other

refused : {A : Type 0} (z : ℤ) → Err Undefined ≡ Ok z → A
refused z e = absurd cc

pub as_int_is : (z v : ℤ) → as_int z ≡ Ok v → z ≡ v
as_int_is z v e = by (int_eq (wrapped z) z) e
  where
    by : (t : Bool) → cond t (Ok z) (Err Undefined) ≡ Ok v → z ≡ v
    by true e = ap (value_in z) e
    by false e = refused v e

after_more : (after extra p : ℕ) (far : ℤ) → pos after +ℤ far ≡ pos p
    → pos (after + extra) +ℤ far ≡ pos (p + extra)
after_more after extra p far e = omega (arith, ints, e)

pub later_place : (items : Items) (i : ℤ) (extra p : ℕ) → place_value items i ≡ Ok (pos p)
    → p + extra < 2 ^ 31 → place_value (later extra items) i ≡ Ok (pos (p + extra))
later_place items i extra p e small = first (number_of items.phase i) e
  where
    last : ℤ → Result ℤ Stop
    last far = as_int (pos items.after +ℤ far)

    next : ℤ → Result ℤ Stop
    next far = as_int (pos (items.after + extra) +ℤ far)

    second : (r : Result ℤ Stop) → result_and_then r last ≡ Ok (pos p)
        → result_and_then r next ≡ Ok (pos (p + extra))
    second (Ok far) e =
        ap as_int (after_more items.after extra p far
        (as_int_is (pos items.after +ℤ far) (pos p) e)) ∙ small_int (p + extra) small
    second (Err why) e = absurd cc

    first : (r : Result ℤ Stop)
        → result_and_then r (λ number. result_and_then (as_int (pos items.each *ℤ number)) last)
        ≡ Ok (pos p)
        → result_and_then r (λ number. result_and_then (as_int (pos items.each *ℤ number)) next)
        ≡ Ok (pos (p + extra))
    first (Ok number) e = second (as_int (pos items.each *ℤ number)) e
    first (Err why) e = absurd cc

pub item_at : (around : Surroundings) (items : Items) (i : ℤ) (place : ℕ)
    → place_value items i ≡ Ok (pos place) → place < around.rooms items.channel
    → item_place around items i ≡ Ok place
item_at around items i place e lt =
    let here : 0 + place ≡ place = omega arith in
    ap (λ r. result_and_then r (place_within (around.rooms items.channel) 0)) e
    ∙ place_is (around.rooms items.channel) 0 place (omega (arith, lt))
    ∙ ap Ok here

-- a copy
pub pass_is : (around : Surroundings) (i : ℤ) (to from : Items) (place there count : ℕ)
    (passing : Passing) → place_value to i ≡ Ok (pos place) → place_value from i ≡ Ok (pos there)
    → place + suc count ≤ around.rooms to.channel → there + suc count ≤ around.rooms from.channel
    → (to.channel ≡ from.channel → ⊥)
    → move_done around i (Pass to from (suc count)) passing
    ≡ Ok (record passing {
      memory = copied to.channel place from.channel there (suc count) passing.memory;
    })
pass_is around i to from place there count passing at from_at fits from_fits differ =
    let done : Result Memory Stop → Result Passing Stop =
    λ r. result_and_then r (λ memory. Ok (record passing { memory = memory })) in
    ap (λ r. result_and_then r (λ p. result_and_then (item_place around from i) (λ t.
    done (copied_within around to.channel p from.channel t (suc count) passing.memory))))
    (item_at around to i place at (omega (arith, fits)))
    ∙ ap (λ r. result_and_then r (λ t.
    done (copied_within around to.channel place from.channel t (suc count) passing.memory)))
    (item_at around from i there from_at (omega (arith, from_fits)))
    ∙ ap (λ b. done (cond b (Err Undefined)
    (cond (may_copy around to.channel place from.channel there (suc count))
    (Ok (copied to.channel place from.channel there (suc count) passing.memory))
    (Err Undefined)))) (ne_eqb to.channel from.channel differ)
    ∙ ap (λ b. done (cond b
    (Ok (copied to.channel place from.channel there (suc count) passing.memory))
    (Err Undefined)))
    (and_from (nat_le (place + suc count) (around.rooms to.channel))
    (nat_le (there + suc count) (around.rooms from.channel))
    (le-leb (place + suc count) (around.rooms to.channel) fits)
    (le-leb (there + suc count) (around.rooms from.channel) from_fits))

-- moves after others
pub moves_joined : (around : Surroundings) (i : ℤ) (front back : List Move) (passing : Passing)
    → moves_done around i (front ++ back) passing
    ≡ result_and_then (moves_done around i front passing) (moves_done around i back)
moves_joined around i [] back passing = refl
moves_joined around i (first ∷ rest) back passing =
    later_moves (move_done around i first passing) (moves_done around i (rest ++ back))
    (moves_done around i rest) (moves_done around i back) (moves_joined around i rest back)
  where
    later_moves : (r : Result Passing Stop) (f g h : Passing → Result Passing Stop)
        → ((p : Passing) → f p ≡ result_and_then (g p) h)
        → result_and_then r f ≡ result_and_then (result_and_then r g) h
    later_moves (Ok p) f g h same = same p
    later_moves (Err why) f g h same = refl
