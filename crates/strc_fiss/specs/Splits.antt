-- What fission gives.
use Rattle.std.specs.Prelude.{List}
use Rattle.strc_elab_graph.specs.NodeView.{GraphParts}
use Rattle.strc_sched_orders.specs.Schedules.{ScheduleParts}
use Rattle.strc_fiss.specs.declared.split.Origin.{Origin}

-- a graph and its schedule, and for each node what it is a part of
pub record SplitParts : Type 0 where
  pub graph : GraphParts
  pub schedule : ScheduleParts
  pub origins : List Origin
