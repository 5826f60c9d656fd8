-- Which cells are the same, and what a written one leaves.
use Rattle.std.proofs.Common.{◌≡◌, ℕ, ◌<◌, ◌≤◌, ℤ, Bool, true, false, cond, refl, sym, ap, ap₂}
use Rattle.std.proofs.Common.{◌∙◌, true≢false, nat_lt, ◌==◌}
use Rattle.std.proofs.lemmas.Bool.{and_from, and_parts, eq-eqb, eqb-true, ne_eqb, lt-ltb, le-ltb}
use Rattle.strc_emit_c.specs.C.{Counter, Popped, Pushed, Turns, Depth}
use Rattle.strc_emit_c.specs.Meaning.{Cell, Field, Local, Counted, Item, same_counter, same_cell}
use Rattle.strc_emit_c.specs.Meaning.{Memory, written, Standing, slot_cell}
use Rattle.strc_emit_meaning.specs.Showing.{may_write}

counter_itself : (counter : Counter) → same_counter counter counter ≡ true
counter_itself Popped = refl
counter_itself Pushed = refl
counter_itself Turns = refl
counter_itself Depth = refl

same_counter_is : (a b : Counter) → same_counter a b ≡ true → a ≡ b
same_counter_is Popped Popped e = refl
same_counter_is Pushed Pushed e = refl
same_counter_is Turns Turns e = refl
same_counter_is Depth Depth e = refl
same_counter_is _ _ e = absurd (true≢false (sym e))

pub cell_itself : (cell : Cell) → same_cell cell cell ≡ true
cell_itself (Field node slot) =
    and_from (node == node) (slot == slot) (eq-eqb node node refl) (eq-eqb slot slot refl)
cell_itself (Local slot) = eq-eqb slot slot refl
cell_itself (Counted counter) = counter_itself counter
cell_itself (Item channel place) =
    and_from (channel == channel) (place == place) (eq-eqb channel channel refl)
    (eq-eqb place place refl)

pub same_cell_is : (a b : Cell) → same_cell a b ≡ true → a ≡ b
same_cell_is (Field node slot) (Field other place) e =
    let both = and_parts (node == other) (slot == place) e in
    ap₂ Field (eqb-true node other both.0) (eqb-true slot place both.1)
same_cell_is (Local slot) (Local other) e = ap Local (eqb-true slot other e)
same_cell_is (Counted counter) (Counted other) e = ap Counted (same_counter_is counter other e)
same_cell_is (Item channel place) (Item other there) e =
    let both = and_parts (channel == other) (place == there) e in
    ap₂ Item (eqb-true channel other both.0) (eqb-true place there both.1)
same_cell_is _ _ e = absurd (true≢false (sym e))

-- cells are apart where a test tells them apart
pub apart_by : (test : Cell → Bool) (a b : Cell) → test a ≡ true → test b ≡ false
    → same_cell a b ≡ false
apart_by test a b passes fails = by (same_cell a b) refl
  where
    by : (t : Bool) → same_cell a b ≡ t → t ≡ false
    by true e = absurd (true≢false (sym passes ∙ ap test (same_cell_is a b e) ∙ fails))
    by false e = refl

-- what is in a cell after one was written
pub kept_in : (cell other : Cell) (value : ℤ) (memory : Memory) → same_cell cell other ≡ false
    → (written cell value memory).cells other ≡ memory.cells other
kept_in cell other value memory e = ap (λ t. cond t value (memory.cells other)) e

pub put_in : (cell : Cell) (value : ℤ) (memory : Memory)
    → (written cell value memory).cells cell ≡ value
put_in cell value memory = ap (λ t. cond t value (memory.cells cell)) (cell_itself cell)

-- the cell of a slot is a field's or a local's
either : (test : Cell → Bool) (t : Bool) (a b : Cell) (answer : Bool) → test a ≡ answer
    → test b ≡ answer → test (cond t a b) ≡ answer
either test true a b answer first second = first
either test false a b answer first second = second

pub slot_passes : (test : Cell → Bool) (stand : Standing) (slot : ℕ) (answer : Bool)
    → test (Field stand.node slot) ≡ answer → test (Local slot) ≡ answer
    → test (slot_cell stand slot) ≡ answer
slot_passes test stand slot answer first second =
    either test (nat_lt slot stand.fields) (Field stand.node slot) (Local slot) answer first second

abbrev is_at : ℕ → Cell → Bool
is_at slot (Field node other) = other == slot
is_at slot (Local other) = other == slot
is_at slot _ = false

pub slots_apart : (stand : Standing) (slot other : ℕ) → (other ≡ slot → ⊥)
    → same_cell (slot_cell stand slot) (slot_cell stand other) ≡ false
slots_apart stand slot other differ =
    apart_by (is_at slot) (slot_cell stand slot) (slot_cell stand other)
    (slot_passes (is_at slot) stand slot true (eq-eqb slot slot refl) (eq-eqb slot slot refl))
    (slot_passes (is_at slot) stand other false (ne_eqb other slot differ)
    (ne_eqb other slot differ))

abbrev is_slot : Cell → Bool
is_slot (Field node slot) = true
is_slot (Local slot) = true
is_slot _ = false

pub slot_apart : (stand : Standing) (slot : ℕ) (cell : Cell) → is_slot cell ≡ false
    → same_cell (slot_cell stand slot) cell ≡ false
slot_apart stand slot cell fails =
    apart_by is_slot (slot_cell stand slot) cell (slot_passes is_slot stand slot true refl refl)
    fails

pub apart_slot : (stand : Standing) (slot : ℕ) (cell : Cell) → is_slot cell ≡ false
    → same_cell cell (slot_cell stand slot) ≡ false
apart_slot stand slot cell fails =
    apart_by isnt_slot cell (slot_cell stand slot) (other cell fails)
    (slot_passes isnt_slot stand slot false refl refl)
  where
    isnt_slot : Cell → Bool
    isnt_slot (Field node slot) = false
    isnt_slot (Local slot) = false
    isnt_slot _ = true

    other : (c : Cell) → is_slot c ≡ false → isnt_slot c ≡ true
    other (Field node slot) e = absurd (true≢false e)
    other (Local slot) e = absurd (true≢false e)
    other (Counted counter) e = refl
    other (Item channel place) e = refl

pub slot_may : (stand : Standing) (pushes slot : ℕ)
    → may_write stand pushes (slot_cell stand slot) ≡ true
slot_may stand pushes slot =
    slot_passes (may_write stand pushes) stand slot true (eq-eqb stand.node stand.node refl) refl

-- a field's cell, and a local's
pub field_cell : (stand : Standing) (slot : ℕ) → slot < stand.fields
    → slot_cell stand slot ≡ Field stand.node slot
field_cell stand slot lt = ap (λ t. cond t (Field stand.node slot) (Local slot))
    (lt-ltb slot stand.fields lt)

pub local_cell : (stand : Standing) (slot : ℕ) → stand.fields ≤ slot
    → slot_cell stand slot ≡ Local slot
local_cell stand slot from = ap (λ t. cond t (Field stand.node slot) (Local slot))
    (le-ltb slot stand.fields from)
