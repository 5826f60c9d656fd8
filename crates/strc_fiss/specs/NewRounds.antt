-- The round after fission, by the one before it: its order, and how often each part fires.
use Rattle.std.specs.Prelude.{◌≡◌, ℕ, suc, ◌+◌, ◌*◌, ◌<◌, true, false}
use Rattle.strc_elab_graph.specs.Graphs.{Graph}
use Rattle.strc_elab_graph.specs.NodeView.{graph_view}
use Rattle.strc_elab_graph.specs.declared.graph.Fission.{Fission}
use Rattle.strc_sched_orders.specs.Firings.{Firings, none_fired}
use Rattle.strc_sched_orders.specs.Greedy.{firings_of}
use Rattle.strc_sched_orders.specs.Order.{firing_count, IsOrder}
use Rattle.strc_sched_orders.specs.Schedules.{ScheduleParts}
use Rattle.strc_sched_orders.specs.Sizing.{round_rates_on}
use Rattle.strc_fiss.specs.Numbers.{is_dealt, base}
use Rattle.strc_fiss.specs.Splits.{SplitParts}

-- the firings of a schedule's round find their windows in it, from the items after start-up
abbrev pub IsRoundOf : Graph → ScheduleParts → Type 0
IsRoundOf graph schedule =
    IsOrder (round_rates_on graph schedule.last) none_fired (firings_of schedule.round)

-- where they do before fission, they do after it
abbrev pub KeepsRound : Graph → ScheduleParts → SplitParts → Type 0
KeepsRound old schedule split =
    IsRoundOf old schedule → IsRoundOf (graph_view split.graph) split.schedule

-- A node that is whole fires as often as before. Of one that is split, the scatter and the gather
-- fire once, and the copies share its firings evenly.
pub record FiresParts (share : ℕ → Fission) (before after : Firings) : Type 0 where
  pub kept : (v : ℕ) → is_dealt (share v) ≡ false → after (base share v) ≡ before v
  pub scatter : (v : ℕ) → is_dealt (share v) ≡ true → after (base share v) ≡ 1
  pub copy : (v i : ℕ) → is_dealt (share v) ≡ true → i < (share v).ways
      → after (base share v + suc i) ≡ (share v).firings
  pub gather : (v : ℕ) → is_dealt (share v) ≡ true
      → after (base share v + suc (share v).ways) ≡ 1
  pub dealt : (v : ℕ) → is_dealt (share v) ≡ true
      → before v ≡ (share v).ways * (share v).firings

-- so many firings of nodes are dealt to parts in the round after fission
abbrev pub DealsRound : (share : ℕ → Fission) → ScheduleParts → SplitParts → Type 0
DealsRound share schedule split =
    FiresParts share (firing_count (firings_of schedule.round))
    (firing_count (firings_of split.schedule.round))
