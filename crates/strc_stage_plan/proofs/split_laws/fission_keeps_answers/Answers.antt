use Rattle.strc_stage_plan.proofs.Runs.{answers_kept}
use Rattle.strc_stage_plan.proofs.split_laws.fission_keeps_answers.Goals as goal

pub returns : goal.returns
returns c = answers_kept
