-- The text of a filter's C is that of functions that do what the filter's text means.
use Rattle.std.specs.Prelude.{◌≡◌, ℕ, suc, ◌+◌, ◌<◌, ◌≤◌, ◌^◌, ℤ, pos, false, List, length, Option}
use Rattle.std.specs.Prelude.{Some, ◌==◌, slice_index_or}
use Rattle.strc_parse_tree.specs.declared.tree.FilterTree.{FilterTree}
use Rattle.strc_work_meaning.specs.declared.body.Body.{Body}
use Rattle.strc_work_meaning.specs.declared.body.Body.TheVariants as body
use Rattle.strc_work_meaning.specs.declared.fault.TheConstants.{CALL_LIMIT}
use Rattle.strc_work_meaning.specs.Closed.{IsClosedFilter}
use Rattle.strc_work_meaning.specs.Filters.{filter_of, sized_fields}
use Rattle.strc_work_meaning.specs.Scoping.{total}
use Rattle.strc_work_meaning.specs.Firing.{fired, turn_limit}
use Rattle.strc_work_code.specs.declared.code.Routine.{Routine}
use Rattle.strc_work_code.specs.Links.{helper_names, AreLinkedCodes}
use Rattle.strc_work_code.specs.Lowering.{slot_count}
use Rattle.strc_emit_c.specs.Meaning.{Field, Item, Memory, Standing}
use Rattle.strc_emit_meaning.specs.Refinement.{Refines}
use Rattle.strc_emit_firings.specs.Functions.{Unset, helpers_done, firing_done, without_items}
use Rattle.strc_emit_firings.specs.Known.{CallsFit}
use Rattle.strc_emit_firings.specs.Firings.{FiringShows}
use Rattle.strc_emit_filter.specs.Filters.{IsFilterText}
use Rattle.strc_emit_bodies.specs.Spelling.{FilterFunctions, BodyFunction, functions_spelled}
use Rattle.strc_emit_bodies.specs.Spelling.{functions_of}

-- the functions that a filter's text spells
abbrev pub written_functions : {node : ℕ} {filter : FilterTree} {values : List ℤ} {text : List ℕ}
    → IsFilterText node filter values text → FilterFunctions
written_functions {node} {filter} {values} written =
    functions_of node filter values written.arrays written.tests written.helpers written.prework
    written.work

-- the text that is written for a filter is the spelling of its functions
abbrev pub FilterTextsAreSpelled : Type 0
FilterTextsAreSpelled =
    (node : ℕ) (filter : FilterTree) (values : List ℤ) (text : List ℕ)
    (written : IsFilterText node filter values text)
    → text ≡ functions_spelled values (written_functions written)

-- a routine is that of a body
abbrev pub IsRoutineOf : Body → (prework : Option Routine) → (work routine : Routine) → Type 0
IsRoutineOf body.Prework prework work routine = prework ≡ Some routine
IsRoutineOf body.Work prework work routine = work ≡ routine

-- the function of a body, where it has one
abbrev pub IsFunctionOf : Body → FilterFunctions → BodyFunction → Type 0
IsFunctionOf body.Prework functions function = functions.prework ≡ Some function
IsFunctionOf body.Work functions function = functions.work ≡ function

-- a filter whose names and calls are known, and whose slots are numbered within an int
pub record IsKnownFilter (filter : FilterTree) (values : List ℤ) : Type 0 where
  pub closed : IsClosedFilter (filter_of filter)
  pub calls : CallsFit (filter_of filter).members
  pub small : slot_count (filter_of filter) < 2 ^ 31
  pub count : length values ≡ total (sized_fields (filter_of filter).members)

-- where a firing of a function stands: it finds the fields' values and its window, and has room for
-- what it gives in another array
pub record FiresIn (filter : FilterTree) (function : BodyFunction) (stand : Standing)
    (fields window : List ℤ) (memory : Memory) : Type 0 where
  pub same : stand.fields ≡ function.function.fields
  pub apart : (stand.source == stand.target) ≡ false
  pub few_read : function.function.peek < 2 ^ 31
  pub few_written : function.function.pushes < 2 ^ 31
  pub reads : stand.reads_from + function.function.peek ≤ stand.source_room
  pub writes : stand.writes_from + function.function.pushes ≤ stand.target_room
  pub count : length fields ≡ stand.fields
  pub held : (slot : ℕ) → slot < stand.fields
      → memory.cells (Field stand.node slot) ≡ slice_index_or fields slot (pos 0)
  pub whole : function.function.peek ≤ length window
  pub ahead : (place : ℕ) → place < function.function.peek
      → memory.cells (Item stand.source (stand.reads_from + place))
      ≡ slice_index_or window place (pos 0)

-- a firing of a body's function, as it is written, gives what the filter's text gives, or comes to
-- the same fault, whatever unset locals hold; it is never undefined
abbrev pub FilterTextsFire : Type 0
FilterTextsFire =
    (node : ℕ) (filter : FilterTree) (values : List ℤ) (text : List ℕ)
    (written : IsFilterText node filter values text)
    → AreLinkedCodes (helper_names (filter_of filter).members) written.helpers
    → IsKnownFilter filter values
    → (body : Body) (function : BodyFunction)
    → IsFunctionOf body (written_functions written) function
    → (stand : Standing) (unset : Unset) (fields window : List ℤ) (memory : Memory) (fuel : ℕ)
    → FiresIn filter function stand fields window memory → turn_limit < fuel
    → Refines (FiringShows stand function.function.pushes memory)
    (fired (filter_of filter) body fields window)
    (firing_done fuel (helpers_done fuel (without_items stand) unset
    (written_functions written).helpers (suc CALL_LIMIT)) stand unset function.statements memory)
