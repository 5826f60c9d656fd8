-- What C's functions do: helper functions, and the functions of filters' bodies.
use Rattle.std.specs.Prelude.{ℕ, zero, suc, ◌+◌, ◌-◌, ℤ, pos, ◌-ℤ◌, List, [], ◌∷◌, length, map}
use Rattle.std.specs.Prelude.{Option, Some, None, Result, Ok, Err, nat_lt, ◌==◌, slice_get}
use Rattle.std.specs.Prelude.{slice_index_or, if◌then◌else◌}
use Rattle.strc_lex_names.specs.Results.{result_and_then}
use Rattle.strc_work_meaning.specs.declared.fault.Cause.TheVariants as cause
use Rattle.strc_work_meaning.specs.declared.fault.TheConstants.{TURN_LIMIT, CALL_LIMIT}
use Rattle.strc_work_code.specs.declared.helper.HelperCode.{HelperCode}
use Rattle.strc_work_code.specs.Code.{code_of}
use Rattle.strc_emit_c.specs.declared.function.Function.{Function}
use Rattle.strc_emit_c.specs.C.{Popped, Pushed, Turns, Depth, Reaches, Statement, Increase, LeaveIf}
use Rattle.strc_emit_c.specs.C.{Statements}
use Rattle.strc_emit_c.specs.Meaning.{Cell, Field, Local, Counted, Item, Memory, written, Stop}
use Rattle.strc_emit_c.specs.Meaning.{Undefined, Standing, slot_cell, as_int, Calls}
use Rattle.strc_emit_c.specs.Meaning.{statements_done}
use Rattle.strc_emit_code.specs.Emitted.{emitted}
use Rattle.strc_emit_meaning.specs.Refinement.{lines_done}

-- what a local holds that nothing was put into: 0, but in a large array, which isn't cleared,
-- anything
abbrev pub Unset : Type 0
Unset = Memory → (slot : ℕ) → ℤ

-- a helper function: how many parameters it has, how many slots it needs with its fields, and its
-- statements
pub record HelperFunction : Type 0 where
  pub parameters : ℕ
  pub slots : ℕ
  pub body : Statements

-- those of these codes
abbrev pub helper_functions : Function → List HelperCode → List HelperFunction
helper_functions function codes = map (λ (code : HelperCode). record {
  parameters = code.parameters;
  slots = code.slots;
  body = emitted function (code_of code.code);
}) codes

-- helper functions stand where the bodies of their node do, but have no items
abbrev pub without_items : Standing → Standing
without_items stand = record stand {
  reads_from = 0;
  source_room = 0;
  writes_from = 0;
  target_room = 0;
}

-- the locals at the beginning of a call: after the fields' slots are two that are 0, whether the
-- call has returned and its value, and the arguments
abbrev pub local_at_call : (fields : ℕ) → (values : List ℤ) → (unset : ℕ → ℤ) → (slot : ℕ) → ℤ
local_at_call fields values unset slot =
    if nat_lt slot (fields + 2) then pos 0
    else if nat_lt slot (fields + (2 + length values))
    then slice_index_or values (slot - (fields + 2)) (pos 0) else unset slot

-- a call has locals of its own, and has taken and given no items
abbrev pub cell_at_call : (fields : ℕ) → (values : List ℤ) → (unset : ℕ → ℤ) → (Cell → ℤ) → Cell
    → ℤ
cell_at_call fields values unset cells (Local slot) = local_at_call fields values unset slot
cell_at_call fields values unset cells (Counted Popped) = pos 0
cell_at_call fields values unset cells (Counted Pushed) = pos 0
cell_at_call fields values unset cells (Counted Turns) = cells (Counted Turns)
cell_at_call fields values unset cells (Counted Depth) = cells (Counted Depth)
cell_at_call fields values unset cells (Field node slot) = cells (Field node slot)
cell_at_call fields values unset cells (Item channel place) = cells (Item channel place)

abbrev pub called_with : (fields : ℕ) → (values : List ℤ) → Unset → Memory → Memory
called_with fields values unset memory =
    record memory { cells = cell_at_call fields values (unset memory) memory.cells }

-- after a call the locals, and what was taken and given, are those of the caller
abbrev pub cell_after_call : (before after : Cell → ℤ) → Cell → ℤ
cell_after_call before after (Local slot) = before (Local slot)
cell_after_call before after (Counted Popped) = before (Counted Popped)
cell_after_call before after (Counted Pushed) = before (Counted Pushed)
cell_after_call before after (Counted Turns) = after (Counted Turns)
cell_after_call before after (Counted Depth) = after (Counted Depth)
cell_after_call before after (Field node slot) = after (Field node slot)
cell_after_call before after (Item channel place) = after (Item channel place)

abbrev pub back_from : (before after : Memory) → Memory
back_from before after = record after { cells = cell_after_call before.cells after.cells }

-- what a helper function begins with: there may be one more call, and one more turn
abbrev pub entry_lines : List Statement
entry_lines = LeaveIf (Reaches Depth CALL_LIMIT) cause.Calls
    ∷ LeaveIf (Reaches Turns TURN_LIMIT) cause.Turns ∷ Increase Turns ∷ Increase Depth ∷ []

-- how it ends: one call less is running, and its value is in the second slot after the fields
abbrev pub returned : Standing → (before after : Memory) → Result (ℤ × Memory) Stop
returned stand before after =
    result_and_then (as_int (after.cells (Counted Depth) -ℤ pos 1)) (λ depth.
    Ok (
      after.cells (slot_cell stand (stand.fields + 1)),
      written (Counted Depth) depth (back_from before after),
    ))

-- a call of a helper function; C gives it no meaning where there is none, or where it is called
-- with another number of arguments
abbrev pub helper_done : (fuel : ℕ) → Calls → Standing → Unset → Option HelperFunction
    → List ℤ → Memory → Result (ℤ × Memory) Stop
helper_done fuel calls stand unset None values memory = Err Undefined
helper_done fuel calls stand unset (Some helper) values memory =
    if length values == helper.parameters
    then result_and_then (lines_done calls stand entry_lines memory) (λ entered.
    result_and_then (statements_done fuel calls stand helper.body
    (called_with stand.fields values unset entered)) (returned stand memory))
    else Err Undefined

-- calls of helper functions, so many within each other; the limit of calls is to keep them from
-- more
abbrev pub helpers_done : (fuel : ℕ) → Standing → Unset → List HelperFunction → (levels : ℕ) → Calls
helpers_done fuel stand unset helpers zero helper values memory = Err Undefined
helpers_done fuel stand unset helpers (suc levels) helper values memory =
    helper_done fuel (helpers_done fuel stand unset helpers levels) stand unset
    (slice_get helpers helper) values memory

-- a firing has locals of its own, and all that it counts begins at 0
abbrev pub cell_at_firing : (unset : ℕ → ℤ) → (Cell → ℤ) → Cell → ℤ
cell_at_firing unset cells (Local slot) = unset slot
cell_at_firing unset cells (Counted counter) = pos 0
cell_at_firing unset cells (Field node slot) = cells (Field node slot)
cell_at_firing unset cells (Item channel place) = cells (Item channel place)

abbrev pub fires_in : Unset → Memory → Memory
fires_in unset memory = record memory { cells = cell_at_firing (unset memory) memory.cells }

-- a firing of a filter's body
abbrev pub firing_done : (fuel : ℕ) → Calls → Standing → Unset → Statements → Memory
    → Result Memory Stop
firing_done fuel calls stand unset body memory =
    result_and_then (statements_done fuel calls stand body (fires_in unset memory))
    (λ after. Ok (back_from memory after))
