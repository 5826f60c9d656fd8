-- What fused rounds are worth, and which schedules can be fused.
use Rattle.std.specs.Prelude.{◌≡◌, ℕ, ◌<◌, ◌≤◌, Bool, false, List, [], ◌∷◌, All, length}
use Rattle.strc_elab_graph.specs.Graphs.{Graph}
use Rattle.strc_elab_graph.specs.FlatGraphs.{IsProgram}
use Rattle.strc_elab_stream.specs.Instances.{Stream}
use Rattle.strc_elab_stream.specs.Types.{IsWellTyped}
use Rattle.strc_elab_stream.specs.Flattening.{tree_of, outer_loops}
use Rattle.strc_balance.specs.Balance.{count_at}
use Rattle.strc_startup.specs.Rates.{rates_of}
use Rattle.strc_startup.specs.declared.channel_rates.ChannelRates.{ChannelRates}
use Rattle.strc_sched_orders.specs.Firings.{Firings}
use Rattle.strc_sched_orders.specs.Greedy.{IsGreedyOrder}
use Rattle.strc_sched_orders.specs.Order.{firing_count, IsOrder}
use Rattle.strc_sched_orders.specs.Peaks.{HasNodes}
use Rattle.strc_sched_orders.specs.Rounds.{IsPastPrework, RoundBalances}
use Rattle.strc_sched_orders.specs.Schedules.{ScheduleParts, IsSchedule}
use Rattle.strc_elab_dataflow.specs.FusedUnits.{RoundUnit, AreFused, firings_of}
use Rattle.strc_fuse.specs.Fusion.{IsFusible}
use Rattle.strc_fuse.specs.Units.{is_free, round_units, ArePlaced}

-- where the units of an order are placed, they are after fusion, and are an order still
abbrev pub FusedUnitsStay : Type 0
FusedUnitsStay =
    (channels : List ChannelRates) (counts round : Firings) (free : ℕ → Bool) (limit : ℕ)
    (units fused : List RoundUnit)
    → All (IsPastPrework counts) channels → All (RoundBalances round) channels
    → ArePlaced channels round free units → AreFused free limit units fused
    → IsOrder channels counts (firings_of units)
    → IsOrder channels counts (firings_of fused) × ArePlaced channels round free fused

-- and each node fires as often, wherever it is
abbrev pub FusedUnitsCount : Type 0
FusedUnitsCount =
    (free : ℕ → Bool) (limit : ℕ) (units fused : List RoundUnit) (node : ℕ)
    → AreFused free limit units fused
    → firing_count (firings_of fused) node ≡ firing_count (firings_of units) node

-- a unit that fires, and has nodes
pub record FiresNodes (unit : RoundUnit) : Type 0 where
  pub turns : 0 < unit.turns
  pub nodes : 0 < length unit.nodes

abbrev pub AllFireNodes : List RoundUnit → Type 0
AllFireNodes [] = Unit {0}
AllFireNodes (unit ∷ later) = FiresNodes unit × AllFireNodes later

-- such units are fused in one way
abbrev pub OneFusion : Type 0
OneFusion =
    (free : ℕ → Bool) (limit : ℕ) (units one other : List RoundUnit)
    → AllFireNodes units → AreFused free limit units one → AreFused free limit units other
    → one ≡ other

-- with no entry in a list nothing is fused
abbrev pub NothingFused : Type 0
NothingFused =
    (free : ℕ → Bool) (units fused : List RoundUnit)
    → AllFireNodes units → AreFused free 0 units fused → fused ≡ units

-- the round of a greedy schedule of a whole program: each node outside feedback loops has all its
-- firings in one unit, after those of the nodes that give to it
abbrev pub ProgramsArePlaced : Type 0
ProgramsArePlaced =
    (graph : Graph) (stream : Stream) (counts firings : Firings)
    (schedule : ScheduleParts)
    → IsWellTyped stream → IsProgram (tree_of stream) graph
    → graph.outer_loops ≡ outer_loops 0 stream
    → IsSchedule (rates_of graph) counts firings schedule
    → ArePlaced (rates_of graph) firings (is_free graph) (round_units schedule.round)

-- what `fuse` asks of a schedule
pub record CanBeFused (graph : Graph) (schedule : ScheduleParts) : Type 0 where
  pub before : length schedule.greatest ≡ length graph.channels
  pub fill : length schedule.last ≡ length graph.channels
  pub nodes : All (HasNodes (length graph.nodes)) schedule.round

-- a greedy schedule of a graph's counts has it
abbrev pub SchedulesCanBeFused : Type 0
SchedulesCanBeFused =
    (graph : Graph) (counts : Firings) (round : List ℕ) (schedule : ScheduleParts)
    → IsSchedule (rates_of graph) counts (count_at round) schedule
    → length round ≤ length graph.nodes → CanBeFused graph schedule
