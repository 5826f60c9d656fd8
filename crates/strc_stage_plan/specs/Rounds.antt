-- The round of a schedule before fission: each node that is split has all its firings in one unit.
use Rattle.std.specs.Prelude.{◌≡◌, ℕ, List}
use Rattle.strc_elab_graph.specs.Graphs.{Graph}
use Rattle.strc_elab_graph.specs.FlatGraphs.{IsProgram}
use Rattle.strc_elab_stream.specs.Instances.{Stream}
use Rattle.strc_elab_stream.specs.Types.{IsWellTyped}
use Rattle.strc_elab_stream.specs.Flattening.{tree_of, outer_loops}
use Rattle.strc_balance.specs.Balance.{count_at}
use Rattle.strc_startup.specs.Rates.{rates_of}
use Rattle.strc_sched_orders.specs.Firings.{Firings}
use Rattle.strc_sched_orders.specs.Schedules.{ScheduleParts, IsSchedule}
use Rattle.strc_fuse.specs.Units.{round_units}
use Rattle.strc_fiss.specs.Laws.{AreOwn}
use Rattle.strc_fiss.specs.OwnUnits.{round_fission}
use Rattle.strc_fiss.specs.Ways.{fission_of}

-- So it is in the round of a greedy schedule of a whole program, where nodes are split by how often
-- they fire in it.
abbrev pub GreedyRoundsAreOwn : Type 0
GreedyRoundsAreOwn =
    (graph : Graph) (stream : Stream) (counts : Firings) (round : List ℕ)
    (schedule : ScheduleParts) (ways : ℕ)
    → IsWellTyped stream → IsProgram (tree_of stream) graph
    → graph.outer_loops ≡ outer_loops 0 stream
    → IsSchedule (rates_of graph) counts (count_at round) schedule
    → AreOwn (fission_of graph round ways) (round_units schedule.round)

-- And so all firings of each node can be dealt: nodes are split by how often they fire.
abbrev pub GreedyRoundsDealAll : Type 0
GreedyRoundsDealAll =
    (graph : Graph) (stream : Stream) (counts : Firings) (round : List ℕ)
    (schedule : ScheduleParts) (ways : ℕ)
    → IsWellTyped stream → IsProgram (tree_of stream) graph
    → graph.outer_loops ≡ outer_loops 0 stream
    → IsSchedule (rates_of graph) counts (count_at round) schedule
    → round_fission graph (round_units schedule.round) round ways ≡ fission_of graph round ways
