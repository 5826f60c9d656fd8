-- Fission of a greedy schedule, and fusion of its round, are within the limits of nodes and of
-- buffers, or pass one of them, and never both.
use Rattle.std.specs.Prelude.{ℕ, ◌<◌, List, length}
use Rattle.strc_elab_graph.specs.Graphs.{Graph}
use Rattle.strc_elab_graph.specs.NodeView.{graph_view}
use Rattle.strc_startup.specs.Rates.{rates_of}
use Rattle.strc_sched_orders.specs.Firings.{Firings}
use Rattle.strc_sched_orders.specs.Schedules.{IsSchedule, ScheduleParts}
use Rattle.strc_fuse.specs.Fusion.{FusedPass}
use Rattle.strc_fiss.specs.Fissions.{IsFission, IsTransformed, SplitPasses}
use Rattle.strc_fiss.specs.Numbers.{node_limit, base}
use Rattle.strc_fiss.specs.Splits.{SplitParts}
use Rattle.strc_fiss.specs.Ways.{fission_of}

-- after fission there are not too many nodes, and no buffer passes the limit, nor after fusion
pub record PassesNoLimit (graph : Graph) (round : List ℕ) (ways threshold : ℕ)
    (schedule : ScheduleParts) : Type 0 where
  pub nodes : ¬ (node_limit < base (fission_of graph round ways) (length graph.nodes))
  pub split : (channel : ℕ) → ¬ SplitPasses (fission_of graph round ways) graph schedule channel
  pub fused : (channel : ℕ) (split : SplitParts)
      → IsFission (fission_of graph round ways) graph schedule split
      → ¬ FusedPass (graph_view split.graph) threshold split.schedule channel

-- Where a greedy schedule of some counts can be transformed, none of these counts passes a limit.
abbrev pub TransformedOrRefused : Type 0
TransformedOrRefused =
    (graph : Graph) (counts firings : Firings) (round : List ℕ) (ways threshold : ℕ)
    (one other : ScheduleParts) (transformed : SplitParts)
    → IsSchedule (rates_of graph) counts firings one
    → IsSchedule (rates_of graph) counts firings other
    → IsTransformed (fission_of graph round ways) graph one threshold transformed
    → PassesNoLimit graph round ways threshold other
