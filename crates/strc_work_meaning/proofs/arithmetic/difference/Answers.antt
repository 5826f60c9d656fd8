use Rattle.std.proofs.lemmas.Int.{wrapping_sub_is}
use mir.Syntax.{w32}
use Rattle.strc_work_meaning.proofs.arithmetic.difference.Goals as goal

pub returns : goal.returns
returns c = wrapping_sub_is w32 c.args.left c.args.right c.ranges.left c.ranges.right
