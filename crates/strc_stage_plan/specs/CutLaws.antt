-- What a cut between groups is worth.
use Rattle.std.specs.Prelude.{◌≡◌, ℕ, suc, ◌≤◌, List, length, Option, slice_index}
use Rattle.strc_elab_graph.specs.FlatGraphs.{IsProgram}
use Rattle.strc_elab_graph.specs.Graphs.{Graph}
use Rattle.strc_elab_stream.specs.Instances.{Stream}
use Rattle.strc_elab_stream.specs.Types.{IsWellTyped}
use Rattle.strc_elab_stream.specs.Flattening.{size_of, outer_loops, tree_of}
use Rattle.strc_startup.specs.Rates.{rates_of}
use Rattle.strc_elab_dataflow.specs.FusedUnits.{RoundUnit}
use Rattle.strc_fuse.specs.Units.{round_units}
use Rattle.strc_sched_orders.specs.declared.unit as units
use Rattle.strc_sched_orders.specs.Greedy.{firings_of}
use Rattle.strc_sched_orders.specs.Ranges.{IsClosedBelow}
use Rattle.strc_elab_dataflow.specs.Groups.{groups, group_bound}
use Rattle.strc_stage_plan.specs.Cuts.{IsBetweenGroups, IsBetweenUnits, BeginsGroup}
use Rattle.strc_stage_plan.specs.Cuts.{firings_within, units_within}
use Rattle.strc_stage_plan.specs.Bounds.{stage_count, stage_bound, stage_bounds}

-- a number that is between the groups of a stream's nodes is where one of them begins, or where
-- the last one ends
abbrev pub BoundsAreOfGroups : Type 0
BoundsAreOfGroups =
    (stream : Stream) (bound : ℕ)
    → IsWellTyped stream → bound ≤ size_of stream → IsBetweenGroups (outer_loops 0 stream) bound
    → (number : ℕ) × (group_bound (groups (tree_of stream)) number ≡ bound)

-- no channel of a program's graph goes back across one
abbrev pub ChannelsGoForward : Type 0
ChannelsGoForward =
    (stream : Stream) (graph : Graph) (bound : ℕ)
    → IsWellTyped stream → IsProgram (tree_of stream) graph
    → graph.outer_loops ≡ outer_loops 0 stream
    → bound ≤ length graph.nodes → IsBetweenGroups graph.outer_loops bound
    → IsClosedBelow (rates_of graph) bound

-- just the numbers of a program's nodes at which groups begin, and those past its last node, are
-- between groups
abbrev pub GroupsBeginBetween : Type 0
GroupsBeginBetween =
    (stream : Stream) (loops : List (Option ℕ)) (number : ℕ) → loops ≡ outer_loops 0 stream
    → (BeginsGroup loops number → IsBetweenGroups loops number)
    × (IsBetweenGroups loops number → BeginsGroup loops number)

-- the firings of a stage are those of its units, where neither bound is within a unit
abbrev pub SegmentsAreUnits : Type 0
SegmentsAreUnits =
    (order : List units.Unit.Unit) (first next : ℕ)
    → IsBetweenUnits (round_units order) first → IsBetweenUnits (round_units order) next
    → firings_of (units_within first next order) ≡ firings_within first next (firings_of order)

-- the list of bounds has them in order: one for each stage, and the last one's end
abbrev pub BoundsAreListed : Type 0
BoundsAreListed =
    (loops : List (Option ℕ)) (order : List RoundUnit) (workers : ℕ)
    → (length (stage_bounds loops order workers) ≡ suc (stage_count loops order workers))
    × ((stage : ℕ) → stage ≤ stage_count loops order workers
    → slice_index (stage_bounds loops order workers) stage
    ≡ stage_bound loops order workers stage)
