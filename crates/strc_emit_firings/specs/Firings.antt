-- A filter's functions in C do what its text means.
use Rattle.std.specs.Prelude.{◌≡◌, ◌≢◌, ℕ, suc, ◌+◌, ◌-◌, ◌<◌, ◌≤◌, ◌^◌, ℤ, pos, false, Bool}
use Rattle.std.specs.Prelude.{true, Err}
use Rattle.std.specs.Prelude.{List, ◌++◌, length, ◌==◌, ◌&&◌, nat_le, nat_lt, slice_index_or}
use Rattle.strc_work_meaning.specs.declared.body.Body.{Body}
use Rattle.strc_work_meaning.specs.declared.fault.Cause.TheVariants as cause
use Rattle.strc_work_meaning.specs.declared.fault.TheConstants.{CALL_LIMIT}
use Rattle.strc_work_meaning.specs.Filters.{item_count, pop_rate, push_rate, window_size}
use Rattle.strc_work_meaning.specs.Filters.{body_rates}
use Rattle.strc_work_meaning.specs.Firing.{Port, Fired, fired, turn_limit, call_limit}
use Rattle.strc_work_code.specs.Lowering.{body_nodes, slot_count}
use Rattle.strc_emit_c.specs.declared.function.Function.{Function}
use Rattle.strc_emit_c.specs.Meaning.{Cell, Field, Local, Counted, Item, Memory, Standing}
use Rattle.strc_emit_code.specs.Emitted.{emitted}
use Rattle.strc_emit_meaning.specs.Refinement.{Refines}
use Rattle.strc_emit_meaning.specs.Showing.{CallsDoTheSame}
use Rattle.strc_work.specs.Calls.{Callable, IsCallable, filter_in, names_in, setting_in}
use Rattle.strc_emit_firings.specs.Functions.{Unset, helper_functions, helpers_done, firing_done}
use Rattle.strc_emit_firings.specs.Functions.{without_items}
use Rattle.strc_emit_firings.specs.Known.{is_known, CallsFit}

-- a function is written for a filter: it knows the helper functions' names, and takes and gives no
-- items in these, which is tested
pub record WritesHelpers (calls : Callable) (function : Function) (stand : Standing) : Type 0 where
  pub names : function.helpers ≡ names_in calls
  pub fields : stand.fields ≡ calls.fields
  pub tests : function.tests ≡ true
  pub pops : function.pops ≡ 0
  pub peek : function.peek ≡ 0
  pub pushes : function.pushes ≡ 0
  pub small : calls.room < 2 ^ 31
  pub apart : (stand.source == stand.target) ≡ false

-- a call of a helper function gives in C what it gives in the text, or faults as there, whatever
-- unset locals hold, while no more calls are running than may be
abbrev pub HelpersDoTheSame : Type 0
HelpersDoTheSame =
    (calls : Callable) (function : Function) (stand : Standing) (unset : Unset) (port : Port)
    (fuel : ℕ)
    → IsCallable calls → CallsFit (filter_in calls).members → WritesHelpers calls function stand
    → turn_limit < fuel → calls.levels ≤ CALL_LIMIT
    → CallsDoTheSame (is_known (filter_in calls).members) function.helpers
    (setting_in calls port).call stand.node stand.fields (pos (CALL_LIMIT - calls.levels))
    (helpers_done fuel (without_items stand) unset (helper_functions function calls.helpers)
    (suc calls.levels))

-- a cell that a firing may write: its node's fields, the places of what it gives, and what it
-- counts over calls
abbrev pub firing_may_write : Standing → (pushes : ℕ) → Cell → Bool
firing_may_write stand pushes (Field node slot) = node == stand.node
firing_may_write stand pushes (Local slot) = false
firing_may_write stand pushes (Counted counter) = true
firing_may_write stand pushes (Item channel place) = channel == stand.target
    && nat_le stand.writes_from place && nat_lt place (stand.writes_from + pushes)

-- the memory after a firing shows what it gives: its fields, its items, and its words after those
-- before; other cells are as they were
pub record FiringShows (stand : Standing) (pushes : ℕ) (before : Memory) (given : Fired)
    (after : Memory) : Type 0 where
  pub fields : (slot : ℕ) → slot < stand.fields
      → after.cells (Field stand.node slot) ≡ slice_index_or given.fields slot (pos 0)
  pub count : length given.fields ≡ stand.fields
  pub few : length given.pushes ≤ pushes
  pub items : (place : ℕ) → place < length given.pushes
      → after.cells (Item stand.target (stand.writes_from + place))
      ≡ slice_index_or given.pushes place (pos 0)
  pub words : after.words ≡ before.words ++ given.words
  pub kept : (cell : Cell) → firing_may_write stand pushes cell ≡ false
      → after.cells cell ≡ before.cells cell

-- a function is written for a body of a filter, and memory has what a firing finds: its fields'
-- values, and the items of its window
pub record Fires (calls : Callable) (body : Body) (function helper : Function) (stand : Standing)
    (values window : List ℤ) (memory : Memory) : Type 0 where
  pub names : function.helpers ≡ names_in calls
  pub pops : function.pops
      ≡ item_count (pop_rate (body_rates body (filter_in calls).members))
  pub peek : function.peek ≡ window_size (body_rates body (filter_in calls).members)
  pub pushes : function.pushes
      ≡ item_count (push_rate (body_rates body (filter_in calls).members))
  pub helpers : WritesHelpers calls helper stand
  pub small : slot_count (filter_in calls) < 2 ^ 31
  pub few_read : function.peek < 2 ^ 31
  pub few_written : function.pushes < 2 ^ 31
  pub reads : stand.reads_from + function.peek ≤ stand.source_room
  pub writes : stand.writes_from + function.pushes ≤ stand.target_room
  pub count : length values ≡ stand.fields
  pub held : (slot : ℕ) → slot < stand.fields
      → memory.cells (Field stand.node slot) ≡ slice_index_or values slot (pos 0)
  pub whole : function.peek ≤ length window
  pub ahead : (place : ℕ) → place < function.peek
      → memory.cells (Item stand.source (stand.reads_from + place))
      ≡ slice_index_or window place (pos 0)

-- a firing of a filter's body gives in C what it gives in the text, or faults as there, whatever
-- unset locals hold; it is never undefined. Where the function has no tests, the text must not come
-- to what they test
abbrev pub FiringsDoTheSame : Type 0
FiringsDoTheSame =
    (calls : Callable) (body : Body) (function helper : Function) (stand : Standing)
    (unset : Unset) (values window : List ℤ) (memory : Memory) (fuel : ℕ)
    → IsCallable calls → CallsFit (filter_in calls).members → calls.levels ≡ call_limit
    → Fires calls body function helper stand values window memory → turn_limit < fuel
    → (function.tests ≡ false
    → fired (filter_in calls) body values window ≢ Err cause.PeekRange)
    → Refines (FiringShows stand function.pushes memory)
    (fired (filter_in calls) body values window)
    (firing_done fuel (helpers_done fuel (without_items stand) unset
    (helper_functions helper calls.helpers) (suc CALL_LIMIT)) stand unset
    (emitted function (body_nodes body (filter_in calls))) memory)
