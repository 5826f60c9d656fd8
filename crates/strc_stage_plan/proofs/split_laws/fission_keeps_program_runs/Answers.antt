use Rattle.strc_stage_plan.proofs.Runs.{program_runs_kept}
use Rattle.strc_stage_plan.proofs.split_laws.fission_keeps_program_runs.Goals as goal

pub returns : goal.returns
returns c = program_runs_kept
