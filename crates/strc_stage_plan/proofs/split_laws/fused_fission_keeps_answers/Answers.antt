use Rattle.strc_stage_plan.proofs.FusedRuns.{fused_answers_kept}
use Rattle.strc_stage_plan.proofs.split_laws.fused_fission_keeps_answers.Goals as goal

pub returns : goal.returns
returns c = fused_answers_kept
