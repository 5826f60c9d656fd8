-- A flat graph of checked instances is planned by the schedule of its least counts.
use Rattle.std.proofs.Common.{◌≡◌, ℕ, ℤ, false, refl, List, Ok}
use Rattle.std.specs.Prelude.{All, Some, slice_get}
use Rattle.std.specs.List.{AllByRecursion}
use Rattle.strc_work_meaning.specs.Filters as filters
use Rattle.strc_work_meaning.specs.Firing.{started}
use Rattle.strc_elab_graph.specs.Graphs as graphs
use Rattle.strc_elab_graph.specs.Graphs.{NodeCode, Graph}
use Rattle.strc_elab_graph.specs.NodeView.{GraphParts, graph_view}
use Rattle.strc_rate.specs.Rates.{FilterRates, checked}
use Rattle.strc_elab.specs.Sound.{IsInstance}
use Rattle.strc_balance.specs.Balance.{count_at}
use Rattle.strc_balance.specs.Rates.{IsRated, equations_of, fires_by_rounds}
use Rattle.strc_startup.specs.Rates.{rates_of}
use Rattle.strc_sched_orders.specs.Schedules.{ScheduleParts}
use Rattle.strc_sched_orders.proofs.Runnable.{schedules_are_runnable}
use Rattle.strc_sched_laws.specs.Planned.{IsFilterOf, IsPlanned}
use Rattle.strc_fiss.specs.Splits.{SplitParts}
use Rattle.strc_stage_plan.specs.Plans.{HasRound, HasSchedule, HasStartup, IsPlan, IsTransformation}
use Rattle.strc_stage_plan.specs.Plans.{IsWhole, parts_of}
use Rattle.strc_run.proofs.CheckedRates.{filter_ok}
use Rattle.strc_run.proofs.Instances.{instance_starts}
use Rattle.strc_run.proofs.RatedGraphs.{IsChecked, checked_at}

-- an instance is no node of fission
never_fissioned : (code : NodeCode) → IsInstance code → fires_by_rounds code ≡ false
never_fissioned (graphs.Filter name filter) is = refl
never_fissioned graphs.Identity is = refl
never_fissioned (graphs.FileReader text) is = refl
never_fissioned (graphs.FileWriter text) is = refl
never_fissioned (graphs.Splitter splitter) is = refl
never_fissioned (graphs.Joiner weights) is = refl
never_fissioned code is = absurd is

module _ (graph : Graph) (all : AllByRecursion IsChecked graph.nodes) where
  -- each node is an instance, and checked
  at : (node : ℕ) (code : NodeCode) → slice_get graph.nodes node ≡ Some code → IsChecked code
  at node code is = checked_at graph.nodes node code all is

  filter_starts : (filter : filters.Filter) → IsFilterOf graph filter
      → (fields : List ℤ) × (started filter ≡ Ok fields)
  filter_starts filter is =
      instance_starts is.1 filter (at is.0 (graphs.Filter is.1 filter) is.2).instance

  filter_rates : (filter : filters.Filter) → IsFilterOf graph filter
      → (rates : FilterRates) × (checked filter ≡ Ok rates)
  filter_rates filter is = let here = at is.0 (graphs.Filter is.1 filter) is.2 in
      filter_ok here.number (checked filter) here.checks

  pub graph_is_planned : (parts : ScheduleParts) (startup round : List ℕ)
      → All IsRated (equations_of graph) → HasStartup graph startup → HasRound graph round
      → HasSchedule graph startup round parts → IsPlanned graph parts
  graph_is_planned parts startup round rated starts rounds scheduled = record {
    unfissioned = λ node code is. never_fissioned code (at node code is).instance;
    starts = filter_starts;
    rates = filter_rates;
    rated = rated;
    startup = startup;
    round = round;
    least_startup = starts.least;
    least_round = rounds.least;
    startup_within = starts.within;
    round_within = rounds.within;
    schedule = schedules_are_runnable (rates_of graph) (count_at startup) (count_at round) parts
        scheduled.is;
  }

-- so it has a plan, with what fission and fusion make of the graph and its schedule
pub graph_has_plan : (graph : GraphParts) → AllByRecursion IsChecked (graph_view graph).nodes
    → (schedule : ScheduleParts) (split : SplitParts) (startup round : List ℕ)
    → All IsRated (equations_of (graph_view graph)) → HasStartup (graph_view graph) startup
    → HasRound (graph_view graph) round → HasSchedule (graph_view graph) startup round schedule
    → IsWhole (graph_view graph) → IsTransformation (graph_view graph) round schedule split
    → IsPlan (parts_of graph startup round schedule split)
unfolding graph_is_planned
graph_has_plan graph all schedule split startup round rated starts rounds scheduled whole
    transformation = record {
      whole = whole;
      startup = starts;
      round = rounds;
      schedule = scheduled;
      planned = graph_is_planned (graph_view graph) all schedule startup round rated starts rounds
          scheduled;
      transformation = transformation;
      startup_is = refl;
      round_is = refl;
    }
