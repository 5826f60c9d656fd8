-- What fission comes to, of what its steps come to.
use Rattle.std.proofs.Common.{◌≡◌, ap, ap₂, ◌∙◌, subst, ℕ, ◌≤◌, List, map, length, Option}
use Rattle.strc_elab_graph.specs.Graphs.{Graph, NodeCode, Channel}
use Rattle.strc_elab_graph.specs.NodeView.{GraphParts, graph_view, node_view, channel_view}
use Rattle.strc_elab_graph.specs.declared.graph.Fission.{Fission}
use Rattle.strc_sched_orders.specs.declared.unit as units
use Rattle.strc_sched_orders.specs.Firings.{none_fired}
use Rattle.strc_sched_orders.specs.Greedy as order
use Rattle.strc_sched_orders.specs.Peaks.{AreRaised}
use Rattle.strc_sched_orders.specs.Schedules.{ScheduleParts}
use Rattle.strc_sched_orders.specs.Sizing.{round_rates_on, PassesOn}
use Rattle.strc_elab_dataflow.specs.FusedUnits.{firings_of}
use Rattle.strc_fuse.specs.Units.{round_units}
use Rattle.strc_fuse.proofs.Counting.{firings_same}
use Rattle.strc_fiss.specs.Fissions.{SplitPasses}
use Rattle.strc_fiss.specs.Numbers.{node_limit, base}
use Rattle.strc_fiss.specs.Splitting.{split_graph, split_greatest, split_last}
use Rattle.strc_fiss.specs.Units.{split_units}

pub graph_is : (split : GraphParts) (graph : Graph) → map node_view split.nodes ≡ graph.nodes
    → map channel_view split.channels ≡ graph.channels → split.outer_loops ≡ graph.outer_loops
    → graph_view split ≡ graph
graph_is split graph nodes channels loops =
    let made : List NodeCode → List Channel → List (Option ℕ) → Graph = λ n c l. record
    { nodes = n; channels = c; outer_loops = l } in
    ap (λ n. made n (map channel_view split.channels) split.outer_loops) nodes
    ∙ ap₂ (made graph.nodes) channels loops

pub raised_same : (graph : Graph) (last last_read : List ℕ)
    (round round_read : List units.Unit.Unit)
    (greatest greatest_read sizes sizes_read : List ℕ)
    → last_read ≡ last → round_read ≡ round → greatest_read ≡ greatest → sizes_read ≡ sizes
    → AreRaised (round_rates_on graph last_read) none_fired
    (order.firings_of round_read) greatest_read
    sizes_read
    → AreRaised (round_rates_on graph last) none_fired (order.firings_of round) greatest sizes
raised_same graph last last_read round round_read greatest greatest_read sizes sizes_read a b d e
    raised =
    subst (λ (l : List ℕ). AreRaised (round_rates_on graph l) none_fired
    (order.firings_of round) greatest
    sizes) a
    (subst (λ (r : List units.Unit.Unit). AreRaised (round_rates_on graph last_read) none_fired
    (order.firings_of r) greatest sizes) b
    (subst (λ (g : List ℕ). AreRaised (round_rates_on graph last_read) none_fired
    (order.firings_of round_read) g sizes) d
    (subst (λ (s : List ℕ). AreRaised (round_rates_on graph last_read) none_fired
    (order.firings_of round_read) greatest_read s) e raised)))

pub passes_there : (share : ℕ → Fission) (old : Graph) (schedule : ScheduleParts) (graph : Graph)
    (last greatest : List ℕ) (round : List units.Unit.Unit) (channel : ℕ)
    → base share (length old.nodes) ≤ node_limit
    → graph ≡ split_graph share old schedule.greatest schedule.last
    → last ≡ split_last share old schedule.greatest schedule.last
    → greatest ≡ split_greatest share old schedule.greatest schedule.last
    → round_units round ≡ split_units share (round_units schedule.round)
    → PassesOn (round_rates_on graph last) none_fired (order.firings_of round) greatest channel
    → SplitPasses share old schedule channel
passes_there share old schedule graph last greatest round channel few graph_e last_e greatest_e
    round_e passes =
    record {
      few = few;
      passes =
          subst (λ (g : Graph). PassesOn (round_rates_on g
          (split_last share old schedule.greatest schedule.last)) none_fired
          (firings_of (split_units share (round_units schedule.round)))
          (split_greatest share old schedule.greatest schedule.last) channel) graph_e
          (subst (λ (l : List ℕ). PassesOn (round_rates_on graph l) none_fired
          (firings_of (split_units share (round_units schedule.round)))
          (split_greatest share old schedule.greatest schedule.last) channel) last_e
          (subst (λ (g : List ℕ). PassesOn (round_rates_on graph last) none_fired
          (firings_of (split_units share (round_units schedule.round))) g channel) greatest_e
          (subst (λ (l : List ℕ). PassesOn
          (round_rates_on graph last) none_fired l greatest channel)
          (firings_same round ∙ ap firings_of round_e) passes)));
    }
