use Rattle.strc_stage_steps.proofs.Endings.{outcomes_tell_endings}
use Rattle.strc_stage_steps.proofs.ring_laws.outcomes_tell_endings.Goals as goal

pub returns : goal.returns
returns c = outcomes_tell_endings
