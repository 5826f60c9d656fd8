use Rattle.strc_elab.proofs.Examples.{endless_is}
use Rattle.strc_elab.proofs.laws.endless_recursion.Goals as goal

pub returns : goal.returns
returns c = endless_is
