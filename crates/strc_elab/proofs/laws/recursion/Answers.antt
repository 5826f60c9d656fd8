use Rattle.strc_elab.proofs.Examples.{recursion_is}
use Rattle.strc_elab.proofs.laws.recursion.Goals as goal

pub returns : goal.returns
returns c = recursion_is
