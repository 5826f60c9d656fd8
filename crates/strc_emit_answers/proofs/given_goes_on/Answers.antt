use Rattle.strc_emit_answers.proofs.Drained.{given_goes_on}
use Rattle.strc_emit_answers.proofs.given_goes_on.Goals as goal

pub returns : goal.returns
returns c = given_goes_on
