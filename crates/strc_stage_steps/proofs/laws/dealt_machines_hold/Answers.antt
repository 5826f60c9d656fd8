use Rattle.strc_stage_steps.proofs.Holding.{dealt_machines_hold}
use Rattle.strc_stage_steps.proofs.laws.dealt_machines_hold.Goals as goal

pub returns : goal.returns
returns c = dealt_machines_hold
