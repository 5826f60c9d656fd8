use Rattle.strc_stage_steps.proofs.OneMachine.{rounds_run_alike}
use Rattle.strc_stage_steps.proofs.ring_laws.rounds_run_alike.Goals as goal

pub returns : goal.returns
returns c = rounds_run_alike
