-- What a program's cells hold before its first firing.
use Rattle.std.specs.Prelude.{◌≡◌, ℕ, ◌<◌, ℤ, pos, List, [], ◌∷◌, length, Some, slice_get}
use Rattle.std.specs.Prelude.{slice_index_or}
use Rattle.std.specs.Option.{option_map_or}
use Rattle.strc_elab_dataflow.specs.Queues.{fifo_at_first}
use Rattle.strc_elab_dataflow.specs.Streams as trees
use Rattle.strc_elab_graph.specs.declared.graph.Channel.{Channel}
use Rattle.strc_elab_graph.specs.Graphs.{NodeCode}
use Rattle.strc_elab_graph.specs.Meaning.{node_meaning, node_fields}
use Rattle.strc_elab_graph.specs.NodeView.{GraphParts}
use Rattle.strc_sched_orders.specs.Schedules.{ScheduleParts}
use Rattle.strc_emit_c.specs.Meaning.{Cell, Field, Item}
use Rattle.strc_emit_moves.specs.Places.{enqueued_items}
use Rattle.strc_emit_moves.specs.declared.places.Phase.TheVariants as phase
use Rattle.strc_emit_runs.specs.Running.{Program, Running, code_at}
use Rattle.strc_emit_runs.specs.Windows.{StandFrom}
use Rattle.strc_emit_runs.specs.Orders.{RunShows}
use Rattle.strc_emit_plans.specs.Programs.{IsPlannedProgram}

-- what a cell holds at first: items of arrays and fields of filters what they are declared with, a
-- channel's enqueued items and the values after the filter's start; all others 0
abbrev pub fields_at : Program → (node : ℕ) → List ℤ
fields_at program node = option_map_or node_fields (code_at program node) []

abbrev pub first_cells : Program → Cell → ℤ
first_cells program (Item channel place) =
    slice_index_or (enqueued_items program.network.channels.now channel) place (pos 0)
first_cells program (Field node slot) = slice_index_or (fields_at program node) slot (pos 0)
first_cells program _ = pos 0

-- so a program begins, with nothing printed or read
abbrev pub first_running : Program → Running
first_running program = record {
  cells = first_cells program;
  tapes = λ node. [];
  taken = 0;
  round = 0;
}

-- arrays begin with the items that are enqueued, and fields with the values of their filter's
-- start; nothing is printed or read
pub record IsFirst (program : Program) (first : Running) : Type 0 where
  pub items : (number : ℕ) (channel : Channel)
      → slice_get program.network.channels.now number ≡ Some channel
      → StandFrom number 0 channel.enqueued.items first.cells
  pub fields : (node slot : ℕ) (code : NodeCode) → code_at program node ≡ Some code
      → slot < length (node_fields code)
      → first.cells (Field node slot) ≡ slice_index_or (node_fields code) slot (pos 0)
  pub tapes : (node : ℕ) → first.tapes node ≡ []
  pub taken : first.taken ≡ 0
  pub round : first.round ≡ 0

-- so the program is where the machine over queues is at first
abbrev pub FirstsShow : Type 0
FirstsShow =
    (tree : trees.Stream NodeCode) (graph : GraphParts) (schedule : ScheduleParts)
    (program : Program) (first : Running)
    → IsPlannedProgram tree graph schedule program → IsFirst program first
    → RunShows program phase.Startup 0 (λ node. 0)
    (fifo_at_first node_meaning (trees.flat tree) program.input) first

-- a program that begins as it is declared is where it is to be before its first firing
abbrev pub DeclaredIsFirst : Type 0
DeclaredIsFirst = (program : Program) → IsFirst program (first_running program)

-- the second one of the items 7 and 8 that are enqueued on channel 3
abbrev pub DeclaredRow : Type 0
DeclaredRow =
    (program : Program) (channel : Channel)
    → slice_get program.network.channels.now 3 ≡ Some channel
    → channel.enqueued.items ≡ pos 7 ∷ pos 8 ∷ []
    → first_cells program (Item 3 1) ≡ pos 8
