-- What a cut of the graph after fission is worth.
use Rattle.std.specs.Prelude.{◌≡◌, ℕ, suc, ◌<◌, List, length}
use Rattle.strc_elab_graph.specs.Graphs.{Graph}
use Rattle.strc_elab_graph.specs.FlatGraphs.{IsProgram}
use Rattle.strc_elab_stream.specs.Instances.{Stream}
use Rattle.strc_elab_stream.specs.Types.{IsWellTyped}
use Rattle.strc_elab_stream.specs.Flattening.{tree_of, outer_loops}
use Rattle.strc_balance.specs.Balance.{count_at}
use Rattle.strc_startup.specs.Rates.{rates_of}
use Rattle.strc_sched_orders.specs.Firings.{Firings}
use Rattle.strc_sched_orders.specs.Schedules.{ScheduleParts, IsSchedule}
use Rattle.strc_sched_laws.specs.Planned.{IsPlanned}
use Rattle.strc_elab_dataflow.specs.FusedUnits.{RoundUnit, AreFused, firings_of}
use Rattle.strc_fuse.specs.Units.{is_free, round_units}
use Rattle.strc_fiss.specs.Units.{split_units}
use Rattle.strc_fiss.specs.Ways.{fission_of}
use Rattle.strc_stage_plan.specs.SplitLaws.{new_graph}
use Rattle.strc_stage_plan.specs.Runs.{graph_after}
use Rattle.strc_elab_dataflow.specs.Ranges.{IsRanged, stage_within}
use Rattle.strc_elab_dataflow.specs.Staging.{IsStaged}
use Rattle.strc_stage_plan.specs.Bounds.{stage_count, stage_bound}
use Rattle.strc_stage_plan.specs.Cuts.{IsCutOf, segment_of}

-- a program's graph and its greedy schedule, where nodes fire so often in a round; and the units
-- that fusion makes of the round after fission
pub record IsFusedFission (stream : Stream) (old : Graph) (schedule : ScheduleParts)
    (round : List ℕ) (ways limit : ℕ) (fused : List RoundUnit) : Type 0 where
  pub typed : IsWellTyped stream
  pub program : IsProgram (tree_of stream) old
  pub loops : old.outer_loops ≡ outer_loops 0 stream
  pub planned : IsPlanned old schedule
  pub counts : Firings
  pub greedy : IsSchedule (rates_of old) counts (count_at round) schedule
  pub units : AreFused (is_free (new_graph old schedule round ways)) limit
      (split_units (fission_of old round ways) (round_units schedule.round)) fused

-- the bounds of so many workers' stages, and their number
module _ (old : Graph) (schedule : ScheduleParts) (round : List ℕ) (ways : ℕ)
    (fused : List RoundUnit) (workers : ℕ) where
  abbrev pub split_bound : (stage : ℕ) → ℕ
  split_bound = stage_bound (new_graph old schedule round ways).outer_loops fused workers

  abbrev pub split_stages : ℕ
  split_stages = stage_count (new_graph old schedule round ways).outer_loops fused workers

-- groups of the nodes after fission that workers share evenly are a cut, of which each stage has
-- some node
abbrev pub SplitBoundsAreACut : Type 0
SplitBoundsAreACut =
    (stream : Stream) (old : Graph) (schedule : ScheduleParts) (round : List ℕ)
    (ways limit : ℕ) (fused : List RoundUnit) (workers : ℕ)
    → IsFusedFission stream old schedule round ways limit fused
    → 0 < workers → 0 < length old.nodes
    → (0 < split_stages old schedule round ways fused workers)
    × IsCutOf (new_graph old schedule round ways) fused
    (split_bound old schedule round ways fused workers)
    (split_stages old schedule round ways fused workers)
    × ((stage : ℕ) → stage < split_stages old schedule round ways fused workers
    → split_bound old schedule round ways fused workers stage
    < split_bound old schedule round ways fused workers (suc stage))

-- the round after fission and fusion that is cut is the firings of each stage's nodes, stage by
-- stage, and no channel goes back
abbrev pub SplitRoundsAreRanged : Type 0
SplitRoundsAreRanged =
    (stream : Stream) (old : Graph) (schedule : ScheduleParts) (round : List ℕ)
    (ways limit : ℕ) (fused : List RoundUnit) (bound : (stage : ℕ) → ℕ) (last : ℕ)
    → IsFusedFission stream old schedule round ways limit fused
    → IsCutOf (new_graph old schedule round ways) fused bound (suc last)
    → IsRanged (graph_after (tree_of stream) old schedule round ways) bound
    (segment_of bound (firings_of fused)) last (firings_of fused)

-- so it is staged
abbrev pub SplitCutsAreStaged : Type 0
SplitCutsAreStaged =
    (stream : Stream) (old : Graph) (schedule : ScheduleParts) (round : List ℕ)
    (ways limit : ℕ) (fused : List RoundUnit) (bound : (stage : ℕ) → ℕ) (last : ℕ)
    → IsFusedFission stream old schedule round ways limit fused
    → IsCutOf (new_graph old schedule round ways) fused bound (suc last)
    → IsStaged (graph_after (tree_of stream) old schedule round ways) (stage_within bound last)
    (segment_of bound (firings_of fused)) (suc last) (firings_of fused)
