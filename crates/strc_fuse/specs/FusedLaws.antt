-- Planned schedules before fusion and after it.
use Rattle.std.specs.Prelude.{◌≡◌, ℕ, false, All}
use Rattle.strc_elab_graph.specs.Graphs.{Graph}
use Rattle.strc_balance.specs.Balance.{count_at}
use Rattle.strc_startup.specs.Rates.{rates_of}
use Rattle.strc_sched_orders.specs.RoundRates.{is_copy}
use Rattle.strc_sched_orders.specs.Firings.{Firings}
use Rattle.strc_sched_orders.specs.Schedules.{IsSchedule, ScheduleParts}
use Rattle.strc_sched_laws.specs.Planned.{IsPlanned}
use Rattle.strc_fuse.specs.Fusion.{IsFusion, FusedPass, IsFusible}
use Rattle.strc_fuse.specs.Units.{is_free, round_units, ArePlaced}

-- a planned schedule whose units are placed can be run round after round, and its graph has no
-- copies: all that `fuse` asks of what it keeps
abbrev pub PlannedAreFusible : Type 0
PlannedAreFusible =
    (graph : Graph) (schedule : ScheduleParts) (planned : IsPlanned graph schedule)
    → ArePlaced (rates_of graph) (count_at planned.round) (is_free graph)
    (round_units schedule.round)
    → All (λ node. is_copy node ≡ false) graph.nodes
    × IsFusible (rates_of graph) (is_free graph) (count_at planned.startup)
    (count_at planned.round) schedule

-- and another one that can be run so is planned too, with the same counts
abbrev pub FusedArePlanned : Type 0
FusedArePlanned =
    (graph : Graph) (schedule other : ScheduleParts) (planned : IsPlanned graph schedule)
    → IsFusible (rates_of graph) (is_free graph) (count_at planned.startup)
    (count_at planned.round) other
    → (again : IsPlanned graph other)
    × (again.startup ≡ planned.startup) × (again.round ≡ planned.round)

-- what a greedy schedule of some counts becomes by fusion is within the limit, or the buffer of a
-- channel passes it then
abbrev pub FusedOrRefused : Type 0
FusedOrRefused =
    (graph : Graph) (counts firings : Firings) (threshold : ℕ) (one other fused : ScheduleParts)
    (channel : ℕ)
    → IsSchedule (rates_of graph) counts firings one
    → IsSchedule (rates_of graph) counts firings other
    → IsFusion graph threshold one fused → FusedPass graph threshold other channel → ⊥
