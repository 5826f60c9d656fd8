-- A channel's items stand in a row in its array, and slide to its front.
use Rattle.std.specs.Prelude.{◌≡◌, ℕ, ◌+◌, ◌<◌, ◌≤◌, ℤ, pos, List, ◌++◌, length, drop, Ok}
use Rattle.std.specs.Prelude.{slice_index_or}
use Rattle.strc_emit_c.specs.Meaning.{Cell, Item}
use Rattle.strc_emit_runs.specs.Running.{Program, Running, rooms_in, slide_done}

-- from a place on
abbrev pub StandFrom : (channel start : ℕ) → (items : List ℤ) → (Cell → ℤ) → Type 0
StandFrom channel start items cells = (place : ℕ) → place < length items
    → cells (Item channel (start + place)) ≡ slice_index_or items place (pos 0)

-- after a slide the items stand from the front on, and other cells are as they were
abbrev pub SlidesMoveItems : Type 0
SlidesMoveItems =
    (program : Program) (channel gone : ℕ) (items : List ℤ) (running : Running)
    → gone + length items ≤ rooms_in program channel
    → StandFrom channel gone items running.cells
    → (after : Running)
    × (slide_done program channel gone (length items) running ≡ Ok after)
    × StandFrom channel 0 items after.cells
    × ((cell : Cell) → ((place : ℕ) → place < length items → cell ≡ Item channel place → ⊥)
    → after.cells cell ≡ running.cells cell)

-- where items stand in a row, so many are taken from the front, and others come after the last one,
-- those that are left stand in a row with them, from so much further on
abbrev pub WindowsMove : Type 0
WindowsMove =
    (channel start count : ℕ) (items more : List ℤ) (before after : Cell → ℤ)
    → count ≤ length items
    → StandFrom channel start items before
    → ((place : ℕ) → place < length items
    → after (Item channel (start + place)) ≡ before (Item channel (start + place)))
    → StandFrom channel (start + length items) more after
    → StandFrom channel (start + count) (drop count items ++ more) after
