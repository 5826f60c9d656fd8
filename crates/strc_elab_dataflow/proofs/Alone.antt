-- The stages before one, run alone, have the runs of the whole graph's equations.
use Rattle.std.proofs.Common.{ap, ◌∙◌, subst, ℕ, ◌≤◌, Bool, List, ◌++◌, arith}
use Rattle.strc_elab_dataflow.specs.Histories.{Run}
use Rattle.strc_elab_dataflow.specs.Machine.{Progress, Progress.Went, Progress.Stopped, go}
use Rattle.strc_elab_dataflow.specs.Machine.{at_first}
use Rattle.strc_elab_dataflow.specs.Cut.{kept}
use Rattle.strc_elab_dataflow.specs.Staging.{Staging, joined, repeated, before, IsStaging}
use Rattle.strc_elab_dataflow.specs.StageLaws.{RunsAlone, StagesRunAlone}
use Rattle.strc_elab_dataflow.proofs.Reaches.{Reach, run_reaches}
use Rattle.strc_elab_dataflow.proofs.Parts.{part_plan, part_solved, part_same, fault_inside}
use Rattle.strc_elab_dataflow.proofs.Parts.{faultless_inside}
use Rattle.strc_elab_dataflow.proofs.Segments.{kept_round}
use Rattle.strc_elab_dataflow.proofs.Begun.{stages_closed}

module _ {Code State Cause Word : Type 0} (plan : Staging Code State Cause Word)
    (is : IsStaging plan) (b t : ℕ) (less : b ≤ plan.stages) (within : t ≤ plan.rounds) where
  abbrev part : ℕ → Bool
  part = before plan.stage_of b

  runs_by : (progress : Progress State Cause Word)
      → Reach (part_plan plan part) (part_solved plan part is.solved (stages_closed plan is b)) t
      progress
      → RunsAlone plan b t progress
  runs_by (Went now) at = (
    faultless_inside plan part is.solved (stages_closed plan is b) t within
        (at.faultless t (omega arith)),
    λ v inside. ap (λ (f : ℕ → Run State Cause Word). f v) (at.agrees t (omega arith) within)
        ∙ part_same plan part is.solved (stages_closed plan is b) t within v inside,
  )
  runs_by (Stopped stop) faults =
      fault_inside plan part is.solved (stages_closed plan is b) t within
      (faults t (omega arith) within)

  alone_runs : RunsAlone plan b t (go plan.meaning plan.graph plan.input
      (kept part plan.startup_order ++ repeated t (joined plan.segment b))
      (at_first plan.meaning plan.graph))
  alone_runs = subst (λ (order : List ℕ). RunsAlone plan b t (go plan.meaning plan.graph plan.input
      (kept part plan.startup_order ++ repeated t order) (at_first plan.meaning plan.graph)))
      (kept_round plan.graph plan.stage_of plan.segment plan.stages plan.round_order is.staged b
      less)
      (runs_by (go plan.meaning plan.graph plan.input (kept part plan.startup_order
      ++ repeated t (kept part plan.round_order)) (at_first plan.meaning plan.graph))
      (run_reaches (part_plan plan part)
      (part_solved plan part is.solved (stages_closed plan is b)) t within))

-- Stages alone.
pub stages_run_alone : {Code State Cause Word : Type 0} → StagesRunAlone Code State Cause Word
stages_run_alone plan b t is less within = alone_runs plan is b t less within
