use Rattle.strc_startup.proofs.Examples.{far_peek}
use Rattle.strc_startup.proofs.laws.far_peek.Goals as goal

pub returns : goal.returns
returns c = far_peek
