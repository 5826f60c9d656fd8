-- The finest groups are a cut.
use Rattle.std.proofs.Common.{◌≡◌, ◌<◌, ◌^◌, ◌-◌, arith, length, suc, ℕ, List, [], ◌∷◌, Option}
use Rattle.std.proofs.Common.{subst}
use Rattle.strc_elab_graph.specs.Graphs.{IsGraph}
use Rattle.strc_stage_plan.specs.Plans.{IsPlan, PlanParts, graph_of, transformed_of}
use Rattle.strc_elab_dataflow.specs.FusedUnits.{RoundUnit}
use Rattle.strc_fuse.specs.Units.{round_units}
use Rattle.strc_stage_plan.specs.Bounds.{stage_count}
use Rattle.strc_stage_cut.proofs.Cuts.{two_bounds, bounds_cut, stages_are}
use Rattle.strc_batch.specs.Sizes.{IsGrouped, last_group}

pub grouped : (plan : PlanParts) → IsPlan plan → IsGraph (transformed_of plan)
    → 0 < length (graph_of plan).nodes → IsGrouped plan
grouped plan is graph nodes = record {
  is = is;
  graph = graph;
  some = two_bounds plan (2 ^ 32 - 1) is (omega arith) nodes;
  cut = bounds_cut plan (2 ^ 32 - 1) is (omega arith) nodes;
}

-- where there is a stage, there is a node
some_loop : (loops : List (Option ℕ)) (order : List RoundUnit) (workers stages : ℕ)
    → suc stages ≡ stage_count loops order workers → 0 < length loops
some_loop [] order workers stages is = absurd (omega (arith, is))
some_loop (loop ∷ loops) order workers stages is = omega arith

pub some_node : (plan : PlanParts) → IsPlan plan → IsGraph (transformed_of plan)
    → 0 < length (graph_of plan).nodes → 0 < length (transformed_of plan).nodes
some_node plan is graph nodes =
    subst (λ n. 0 < n) graph.outer_loops
    (some_loop (transformed_of plan).outer_loops (round_units plan.split.schedule.round)
    (2 ^ 32 - 1) (last_group plan) (stages_are plan (2 ^ 32 - 1) is (omega arith) nodes))
