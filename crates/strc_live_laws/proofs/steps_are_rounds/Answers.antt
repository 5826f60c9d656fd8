use Rattle.strc_live_laws.proofs.Rounds.{rounds_law}
use Rattle.strc_live_laws.proofs.steps_are_rounds.Goals as goal

pub returns : goal.returns
returns c = rounds_law
