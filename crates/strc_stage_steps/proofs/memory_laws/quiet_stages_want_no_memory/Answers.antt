use Rattle.strc_stage_steps.proofs.QuietStages.{quiet_stages}
use Rattle.strc_stage_steps.proofs.memory_laws.quiet_stages_want_no_memory.Goals as goal

pub returns : goal.returns
returns c = quiet_stages
