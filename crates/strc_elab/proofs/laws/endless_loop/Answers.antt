use Rattle.strc_elab.proofs.Examples.{endless_loop_is}
use Rattle.strc_elab.proofs.laws.endless_loop.Goals as goal

pub returns : goal.returns
returns c = endless_loop_is
