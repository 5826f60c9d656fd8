use Rattle.std.proofs.Common.{arith}
use Rattle.strc_parse.proofs.Placed.{helper_placed}
use Rattle.strc_parse.proofs.control.StatementRules.helper_function.Goals as goal

pub returns-clause-placed : goal.returns-clause-placed
returns-clause-placed g c = grind (arith, helper_placed)
