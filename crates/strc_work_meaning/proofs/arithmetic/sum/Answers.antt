use Rattle.std.proofs.lemmas.Int.{wrapping_add_is}
use mir.Syntax.{w32}
use Rattle.strc_work_meaning.proofs.arithmetic.sum.Goals as goal

pub returns : goal.returns
returns c = wrapping_add_is w32 c.args.left c.args.right c.ranges.left c.ranges.right
