-- A firing of a filter in a program does what the filter's text means.
use Rattle.std.specs.Prelude.{◌≡◌, ℕ, ◌+◌, ◌<◌, ◌≤◌, ◌^◌, ℤ, pos, List, length, Option, Some, None}
use Rattle.std.specs.Prelude.{slice_index_or, Ok}
use Rattle.strc_parse_tree.specs.declared.tree.FilterTree.{FilterTree}
use Rattle.strc_work_meaning.specs.declared.body.Body.TheVariants as body
use Rattle.strc_work_meaning.specs.Filters.{filter_of}
use Rattle.strc_work_meaning.specs.Firing.{Fired, fired, turn_limit}
use Rattle.strc_work_code.specs.Links.{helper_names, AreLinkedCodes}
use Rattle.strc_emit_c.specs.Meaning.{Field, Standing}
use Rattle.strc_emit_meaning.specs.Refinement.{Refines}
use Rattle.strc_emit_firings.specs.Firings.{FiringShows}
use Rattle.strc_emit_filter.specs.Filters.{IsFilterText}
use Rattle.strc_emit_bodies.specs.Spelling.{BodyFunction}
use Rattle.strc_emit_bodies.specs.Bodies.{written_functions, IsKnownFilter}
use Rattle.strc_emit_moves.specs.declared.places.Items.{Items}
use Rattle.strc_emit_moves.specs.declared.places.Phase.{Phase}
use Rattle.strc_emit_moves.specs.declared.places.Phase.TheVariants as phase
use Rattle.strc_emit_moves.specs.Places.{taken_at, given_at, enqueued_items}
use Rattle.strc_emit_passes.specs.Meaning.{place_value}
use Rattle.strc_emit_runs.specs.Running.{Program, Running, rooms_in, no_input, no_output, standing}
use Rattle.strc_emit_runs.specs.Running.{memory_of, work_done, body_done, first_source}
use Rattle.strc_emit_runs.specs.Running.{first_target}
use Rattle.strc_emit_runs.specs.Windows.{StandFrom}

-- a node's functions are those that its filter's text spells
pub record HasFilter (program : Program) (node : ℕ) (filter : FilterTree) : Type 0 where
  pub values : List ℤ
  pub text : List ℕ
  pub written : IsFilterText node filter values text
  pub linked : AreLinkedCodes (helper_names (filter_of filter).members) written.helpers
  pub known : IsKnownFilter filter values
  pub functions : program.functions node ≡ written_functions written

-- where a body finds its items, and where its own go: at these places of the channels at its
-- ports, or nowhere
abbrev pub side : Option Items → (nothing place : ℕ) → ℕ × ℕ
side None nothing place = (nothing, 0)
side (Some items) nothing place = (items.channel, place)

abbrev pub stand_at : Program → Phase → (node : ℕ) → BodyFunction → (from to : ℕ) → Standing
stand_at program when node function from to = standing program node function
    (side (taken_at program.network when node 0) (no_input program) from)
    (side (given_at program.network when node 0) (no_output program) to)

-- a firing of a body finds its fields, its window from one place on, and room from another on
pub record FindsBody (program : Program) (when : Phase) (node : ℕ) (function : BodyFunction)
    (fields window : List ℤ) (from to : ℕ) (running : Running) : Type 0 where
  pub taken_there : (items : Items) → taken_at program.network when node 0 ≡ Some items
      → items.channel < length program.network.channels.now
  pub taken_room : (items : Items) → taken_at program.network when node 0 ≡ Some items
      → from + function.function.peek ≤ rooms_in program items.channel
  pub taken_none : taken_at program.network when node 0 ≡ None → function.function.peek ≡ 0
  pub window_is : (items : Items) → taken_at program.network when node 0 ≡ Some items
      → StandFrom items.channel from window running.cells
  pub given_there : (items : Items) → given_at program.network when node 0 ≡ Some items
      → items.channel < length program.network.channels.now
  pub given_room : (items : Items) → given_at program.network when node 0 ≡ Some items
      → to + function.function.pushes ≤ rooms_in program items.channel
  pub given_none : given_at program.network when node 0 ≡ None → function.function.pushes ≡ 0
  pub apart : (items others : Items) → taken_at program.network when node 0 ≡ Some items
      → given_at program.network when node 0 ≡ Some others → items.channel ≡ others.channel → ⊥
  pub few_read : function.function.peek < 2 ^ 31
  pub few_written : function.function.pushes < 2 ^ 31
  pub count : length fields ≡ function.function.fields
  pub held : (slot : ℕ) → slot < function.function.fields
      → running.cells (Field node slot) ≡ slice_index_or fields slot (pos 0)
  pub whole : function.function.peek ≤ length window

-- what the firing gives is where it is to be, on its node's tape too, and all else is as it was
pub record BodyShows (program : Program) (when : Phase) (node : ℕ) (function : BodyFunction)
    (from to : ℕ) (before : Running) (given : Fired) (after : Running) : Type 0 where
  pub shows : FiringShows (stand_at program when node function from to) function.function.pushes
      (memory_of before node) given (memory_of after node)
  pub tapes : (other : ℕ) → (other ≡ node → ⊥) → after.tapes other ≡ before.tapes other
  pub taken : after.taken ≡ before.taken
  pub round : after.round ≡ before.round

-- firing i of a work, whose items stand where their places are for i
abbrev pub WorksFire : Type 0
WorksFire =
    (program : Program) (when : Phase) (node : ℕ) (filter : FilterTree) (i : ℕ)
    (fields window : List ℤ) (from to : ℕ) (running : Running)
    → HasFilter program node filter → turn_limit < program.fuel
    → ((items : Items) → taken_at program.network when node 0 ≡ Some items
    → place_value items (pos i) ≡ Ok (pos from))
    → ((items : Items) → given_at program.network when node 0 ≡ Some items
    → place_value items (pos i) ≡ Ok (pos to))
    → FindsBody program when node (program.functions node).work fields window from to running
    → Refines (BodyShows program when node (program.functions node).work from to running)
    (fired (filter_of filter) body.Work fields window)
    (work_done program when node (pos i) running)

-- the firing of a prework, which takes the items at the front, and gives its own after those that
-- are enqueued
abbrev pub PreworksFire : Type 0
PreworksFire =
    (program : Program) (node : ℕ) (filter : FilterTree) (function : BodyFunction)
    (fields window : List ℤ) (to : ℕ) (running : Running)
    → HasFilter program node filter → turn_limit < program.fuel
    → (program.functions node).prework ≡ Some function
    → ((items : Items) → given_at program.network phase.Startup node 0 ≡ Some items
    → to ≡ length (enqueued_items program.network.channels.now items.channel))
    → FindsBody program phase.Startup node function fields window 0 to running
    → Refines (BodyShows program phase.Startup node function 0 to running)
    (fired (filter_of filter) body.Prework fields window)
    (body_done program node function
    (first_source program (taken_at program.network phase.Startup node 0))
    (first_target program (given_at program.network phase.Startup node 0)) running)
