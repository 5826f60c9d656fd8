use Rattle.std.proofs.Common.{List, ℕ, Result, Ok, Err, IfOk}
use Rattle.strc_elab_graph.specs.Graphs.{IsGraph}
use Rattle.strc_stage_plan.specs.Plans.{IsPlan, PlanParts, transformed_of}
use Rattle.strc_stage_cut.specs.Cuts.{IsCutAt}
use Rattle.strc_stage_weights.specs.StageBounds.{AreStageBounds}
use Rattle.strc_run.proofs.staged_run.bounds_of_work.Goals as goal

-- bounds of a plan's stages are a cut of it
cut_at : {V E : Type 0} (items_of : V → List ℕ) (plan : PlanParts) (stages : ℕ) → IsPlan plan
    → IsGraph (transformed_of plan) → (found : Result V E)
    → IfOk found (λ bounds. AreStageBounds plan stages (items_of bounds))
    → IfOk found (λ bounds. IsCutAt plan (items_of bounds))
cut_at items_of plan stages is graph (Ok bounds) are =
    record { is = is; graph = graph; some = are.some; cut = are.cut }
cut_at items_of plan stages is graph (Err none) are = tt

pub returns : goal.returns
returns c =
    cut_at (λ bounds. bounds.items) c.args.plan.now _ c.known.ensures.is
    c.known.ensures.transformed c.weighed_bounds.result c.weighed_bounds.ensures.stages
