use Rattle.std.proofs.Common.{arith}
use Rattle.strc_parse.proofs.Placed.{composite_placed}
use Rattle.strc_parse.proofs.control.StatementRules.anonymous_composite.Goals as goal

pub returns-in_ok-block-in-Some-clause-placed : goal.returns-in_ok-block-in-Some-clause-placed
returns-in_ok-block-in-Some-clause-placed g c = grind (arith, composite_placed)
