use Rattle.strc_elab.proofs.Examples.{loop_is}
use Rattle.strc_elab.proofs.laws.anonymous_in_a_loop.Goals as goal

pub returns : goal.returns
returns c = loop_is
