-- What fission of a graph and its schedule comes to.
use Rattle.std.specs.Prelude.{◌≡◌, ℕ, ◌≤◌, All, length}
use Rattle.strc_elab_graph.specs.Graphs.{Graph}
use Rattle.strc_elab_graph.specs.NodeView.{graph_view}
use Rattle.strc_elab_graph.specs.declared.graph.Fission.{Fission}
use Rattle.strc_sched_orders.specs.Buffers.{size_limit}
use Rattle.strc_sched_orders.specs.Firings.{none_fired}
use Rattle.strc_sched_orders.specs.Greedy as order
use Rattle.strc_sched_orders.specs.Peaks.{AreRaised}
use Rattle.strc_sched_orders.specs.Schedules.{ScheduleParts}
use Rattle.strc_sched_orders.specs.Sizing.{round_rates_on, PassesOn}
use Rattle.strc_elab_dataflow.specs.FusedUnits.{firings_of}
use Rattle.strc_fuse.specs.Fusion.{IsFusion}
use Rattle.strc_fuse.specs.Units.{round_units}
use Rattle.strc_fiss.specs.Numbers.{node_limit, base, each_part, origin_of}
use Rattle.strc_fiss.specs.Splits.{SplitParts}
use Rattle.strc_fiss.specs.Splitting.{split_graph, split_greatest, split_last}
use Rattle.strc_fiss.specs.Units.{split_units}

module _ (share : ℕ → Fission) (old : Graph) (schedule : ScheduleParts) where
  -- a graph and its schedule, split so: start-up is as before, and new channels have no items in it
  pub record IsFission (split : SplitParts) : Type 0 where
    pub few : base share (length old.nodes) ≤ node_limit
    pub graph : graph_view split.graph
        ≡ split_graph share old schedule.greatest schedule.last
    pub startup : round_units split.schedule.startup ≡ round_units schedule.startup
    pub round : round_units split.schedule.round
        ≡ split_units share (round_units schedule.round)
    pub greatest : split.schedule.greatest
        ≡ split_greatest share old schedule.greatest schedule.last
    pub last : split.schedule.last ≡ split_last share old schedule.greatest schedule.last
    pub each : length split.schedule.sizes ≡ length split.graph.channels
    pub within : All (λ size. size ≤ size_limit) split.schedule.sizes
    pub sizes : AreRaised (round_rates_on (graph_view split.graph) split.schedule.last) none_fired
        (order.firings_of split.schedule.round) split.schedule.greatest split.schedule.sizes
    pub origins : split.origins ≡ each_part share (origin_of share) (length old.nodes)

  -- the buffer of a channel passes the limit while the round after fission fires, and of no lower
  -- channel
  pub record SplitPasses (channel : ℕ) : Type 0 where
    pub few : base share (length old.nodes) ≤ node_limit
    pub passes : PassesOn
        (round_rates_on (split_graph share old schedule.greatest schedule.last)
        (split_last share old schedule.greatest schedule.last)) none_fired
        (firings_of (split_units share (round_units schedule.round)))
        (split_greatest share old schedule.greatest schedule.last) channel

-- a graph and its schedule, split so, and then the units of the round fused into lists of at most
-- so many entries
pub record IsTransformed (share : ℕ → Fission) (old : Graph) (schedule : ScheduleParts)
    (threshold : ℕ) (transformed : SplitParts) : Type 0 where
  pub unfused : ScheduleParts
  pub fission : IsFission share old schedule (record transformed { schedule = unfused })
  pub fusion : IsFusion (graph_view transformed.graph) threshold unfused transformed.schedule
