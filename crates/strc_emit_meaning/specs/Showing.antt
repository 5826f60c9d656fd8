-- What C's memory shows of the machine that runs lowered code.
use Rattle.std.specs.Prelude.{◌≡◌, ℕ, ◌+◌, ◌<◌, ◌≤◌, ◌^◌, ℤ, pos, Bool, true, false, ◌&&◌, List}
use Rattle.std.specs.Prelude.{◌++◌, length, take, nat_le, nat_lt, ◌==◌, slice_index_or, Option}
use Rattle.std.specs.Prelude.{Some, None, Result, Err}
use Rattle.strc_work_meaning.specs.declared.fault.Cause.{Cause}
use Rattle.strc_work_meaning.specs.declared.fault.Cause.TheVariants as cause
use Rattle.strc_work_meaning.specs.Firing.{Port, Setting, Called, turn_limit}
use Rattle.strc_work_code.specs.Machine.{Machine, slot_value}
use Rattle.strc_work_code.specs.Links.{place_of}
use Rattle.strc_emit_c.specs.declared.function.Function.{Function}
use Rattle.strc_emit_c.specs.C.{Popped, Pushed, Turns, Depth}
use Rattle.strc_emit_c.specs.Meaning.{Cell, Field, Local, Counted, Item, Memory, Stop, Faults}
use Rattle.strc_emit_c.specs.Meaning.{Standing, slot_cell, Calls}
use Rattle.strc_emit_meaning.specs.Refinement.{Refines}

-- a cell that a function may write: those of its node's fields, its locals, its counters, but for
-- how many calls are running, and the places of the items that it may push
abbrev pub may_write : Standing → (pushes : ℕ) → Cell → Bool
may_write stand pushes (Field node slot) = node == stand.node
may_write stand pushes (Local slot) = true
may_write stand pushes (Counted Popped) = true
may_write stand pushes (Counted Pushed) = true
may_write stand pushes (Counted Turns) = true
may_write stand pushes (Counted Depth) = false
may_write stand pushes (Item channel place) = channel == stand.target
    && nat_le stand.writes_from place && nat_lt place (stand.writes_from + pushes)

-- a function is written for where its code stands: the fields are as many, and what it may pop,
-- look at and push, which it tests; its arrays have room for the window and for what is pushed,
-- which are two arrays and hold fewer than 2^31 items; and the window stands in the first one at
-- its start
pub record Stands (function : Function) (setting : Setting) (stand : Standing) (start : Memory)
    (size : ℕ) : Type 0 where
  pub fields : stand.fields ≡ setting.cells
  pub fits : setting.cells ≤ size
  pub small : size < 2 ^ 31
  pub tests : function.tests ≡ true
  pub pops : function.pops ≡ length setting.port.front
  pub peek : function.peek ≡ length setting.port.ahead
  pub pushes : function.pushes ≡ setting.port.room
  pub front : setting.port.front ≡ take function.pops setting.port.ahead
  pub reads : stand.reads_from + function.peek ≤ stand.source_room
  pub writes : stand.writes_from + function.pushes ≤ stand.target_room
  pub few_read : function.peek < 2 ^ 31
  pub few_written : function.pushes < 2 ^ 31
  pub apart : (stand.source == stand.target) ≡ false
  pub window : (place : ℕ) → place < function.peek
      → start.cells (Item stand.source (stand.reads_from + place))
      ≡ slice_index_or setting.port.ahead place (pos 0)

-- the memory shows the slots, the counters, what was pushed, and the words after those at the
-- function's start; other cells are as they were then; and the turns are between two limits
pub record Shows (stand : Standing) (port : Port) (start : Memory) (size lower : ℕ)
    (machine : Machine) (memory : Memory) : Type 0 where
  pub count : length machine.slots ≡ size
  pub slots : (slot : ℕ) → slot < size
      → memory.cells (slot_cell stand slot) ≡ slot_value machine slot
  pub popped : memory.cells (Counted Popped) ≡ pos machine.traffic.popped
  pub pushed : memory.cells (Counted Pushed) ≡ pos (length machine.traffic.pushes)
  pub turns : memory.cells (Counted Turns) ≡ pos machine.traffic.turns
  pub above : lower ≤ machine.traffic.turns
  pub within : machine.traffic.turns ≤ turn_limit
  pub few_popped : machine.traffic.popped ≤ length port.front
  pub few_pushed : length machine.traffic.pushes ≤ port.room
  pub output : (place : ℕ) → place < length machine.traffic.pushes
      → memory.cells (Item stand.target (stand.writes_from + place))
      ≡ slice_index_or machine.traffic.pushes place (pos 0)
  pub words : memory.words ≡ start.words ++ machine.traffic.words
  pub kept : (cell : Cell) → may_write stand port.room cell ≡ false
      → memory.cells cell ≡ start.cells cell

-- a cell that a call may write: those of its node's fields, and the turns
abbrev pub call_may_write : (node : ℕ) → Cell → Bool
call_may_write node (Field other slot) = other == node
call_may_write node (Counted Turns) = true
call_may_write node _ = false

-- what C has after a call shows what a call gives: its value, the values of so many fields and the
-- turns; other cells and the words are as they were
pub record CallShows (node fields : ℕ) (before : Memory) (turns : ℕ) (called : Called)
    (told : ℤ × Memory) : Type 0 where
  pub value : told.0 ≡ called.value
  pub count : length called.fields ≡ fields
  pub held : (slot : ℕ) → slot < fields
      → told.1.cells (Field node slot) ≡ slice_index_or called.fields slot (pos 0)
  pub turning : told.1.cells (Counted Turns) ≡ pos called.turns
  pub above : turns ≤ called.turns
  pub within : called.turns ≤ turn_limit
  pub words : told.1.words ≡ before.words
  pub kept : (cell : Cell) → call_may_write node cell ≡ false
      → told.1.cells cell ≡ before.cells cell

-- a call of the helper function at a place; where there is none it faults
abbrev pub called_at : Calls → Option ℕ → List ℤ → Memory → Result (ℤ × Memory) Stop
called_at calls None values memory = Err (Faults cause.Calls)
called_at calls (Some helper) values memory = calls helper values memory

-- calls that are known do in C, where so many are running, what they do in lowered code; the names
-- of helper functions tell where they stand
abbrev pub CallsDoTheSame : (known : List ℕ → ℕ → Bool) → (names : List (List ℕ))
    → (call : List ℕ → List ℤ → List ℤ → ℕ → Result Called Cause) → (node fields : ℕ)
    → (depth : ℤ) → Calls → Type 0
CallsDoTheSame known names call node fields depth calls =
    (name : List ℕ) (values held : List ℤ) (turns : ℕ) (memory : Memory)
    → known name (length values) ≡ true → length held ≡ fields
    → ((slot : ℕ) → slot < fields
    → memory.cells (Field node slot) ≡ slice_index_or held slot (pos 0))
    → memory.cells (Counted Turns) ≡ pos turns → turns ≤ turn_limit
    → memory.cells (Counted Depth) ≡ depth
    → Refines (CallShows node fields memory turns) (call name values held turns)
    (called_at calls (place_of names name) values memory)
