use Rattle.strc_stage_core.proofs.Counts.{lengths}
use Rattle.strc_stage_core.proofs.lists_are_in_step.Goals as goal

pub returns : goal.returns
returns g c = lengths
