-- What fission of a planned graph is worth: the graph after it is a split graph of the one before.
use Rattle.std.specs.Prelude.{ℕ, List}
use Rattle.strc_elab_graph.specs.Graphs.{NodeCode, Graph, IsGraph}
use Rattle.strc_elab_graph.specs.Meaning.{node_meaning}
use Rattle.strc_sched_orders.specs.Schedules.{ScheduleParts}
use Rattle.strc_sched_laws.specs.Planned.{IsPlanned, AreKnown}
use Rattle.strc_elab_dataflow.specs.FusedUnits.{firings_of}
use Rattle.strc_elab_dataflow.specs.Split.{IsSplitGraph}
use Rattle.strc_fuse.specs.Units.{round_units}
use Rattle.strc_fiss.specs.Numbers.{parts_after}
use Rattle.strc_fiss.specs.Splitting.{split_graph}
use Rattle.strc_fiss.specs.Units.{split_units}
use Rattle.strc_fiss.specs.Ways.{fission_of}
use Rattle.strc_stage_plan.specs.Sources.{flat_graph, EndApart}

module _ (old : Graph) (schedule : ScheduleParts) (round : List ℕ) (ways : ℕ) where
  -- the graph after fission, where nodes fire so often in a round
  abbrev pub new_graph : Graph
  new_graph = split_graph (fission_of old round ways) old schedule.greatest schedule.last

  -- the firings of a round after fission
  abbrev pub split_order : List ℕ
  split_order = firings_of (split_units (fission_of old round ways) (round_units schedule.round))

-- The parts of each node are in the new graph, and are wired as the old nodes are.
abbrev pub SplitGraphsAreSplit : Type 0
SplitGraphsAreSplit =
    (past : NodeCode) (old : Graph) (schedule : ScheduleParts) (round : List ℕ) (ways : ℕ)
    (fired : ℕ → ℕ)
    → IsGraph old → EndApart old → IsPlanned old schedule → AreKnown old
    → IsSplitGraph (parts_after (fission_of old round ways) fired) node_meaning
    (flat_graph past old) (flat_graph past (new_graph old schedule round ways))
