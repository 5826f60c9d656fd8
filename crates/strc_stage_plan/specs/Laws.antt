-- A graph has counts and a schedule, or it is refused, and never both.
use Rattle.std.specs.Prelude.{◌≡◌, ℕ, Bool, List}
use Rattle.strc_elab_graph.specs.Graphs.{Graph}
use Rattle.strc_balance.specs.Balance.{count_at}
use Rattle.strc_sched_orders.specs.Schedules.{ScheduleParts}
use Rattle.strc_stage_plan.specs.Plans.{HasStartup, HasSchedule, IsDeadlocked, Overflows}

-- a graph has one list of start-up counts
abbrev pub OneStartup : Type 0
OneStartup = (graph : Graph) (one other : List ℕ) → HasStartup graph one → HasStartup graph other
    → count_at one ≡ count_at other

-- a graph with a schedule isn't deadlocked, and no buffer of it is larger than the limit
abbrev pub ScheduledOrRefused : Type 0
ScheduledOrRefused = (graph : Graph) (startup round : List ℕ) (schedule : ScheduleParts)
    → HasSchedule graph startup round schedule
    → ((in_startup : Bool) → ¬ IsDeadlocked graph startup round in_startup)
    × ((channel : ℕ) → ¬ Overflows graph startup round channel)
