-- Why a schedule isn't fused.
use Rattle.std.proofs.Common.{subst, ℕ, List}
use Rattle.strc_elab_graph.specs.Graphs.{Graph}
use Rattle.strc_sched_orders.specs.declared.unit as units
use Rattle.strc_sched_orders.specs.Firings.{none_fired}
use Rattle.strc_sched_orders.specs.Greedy as order
use Rattle.strc_sched_orders.specs.Schedules.{ScheduleParts}
use Rattle.strc_sched_orders.specs.Sizing.{PassesOn, round_rates_on}
use Rattle.strc_elab_dataflow.specs.FusedUnits.{AreFused}
use Rattle.strc_fuse.specs.Fusion.{FusedPass}
use Rattle.strc_fuse.specs.Units.{is_free, round_units}
use Rattle.strc_fuse.proofs.Counting.{firings_same}

-- the limit is passed by the units that were fused
pub fused_pass : (graph : Graph) (threshold : ℕ) (schedule : ScheduleParts) (channel : ℕ)
    (round : List units.Unit.Unit)
    → AreFused (is_free graph) threshold (round_units schedule.round) (round_units round)
    → PassesOn (round_rates_on graph schedule.last) none_fired (order.firings_of round)
    schedule.greatest channel
    → FusedPass graph threshold schedule channel
fused_pass graph threshold schedule channel round fused passes = record {
  units = round_units round;
  fused = fused;
  passes = subst (λ (l : List ℕ). PassesOn (round_rates_on graph schedule.last) none_fired l
      schedule.greatest channel) (firings_same round) passes;
}
