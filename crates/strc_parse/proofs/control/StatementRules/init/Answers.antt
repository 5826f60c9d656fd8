use Rattle.std.proofs.Common.{arith}
use Rattle.strc_parse.proofs.Placed.{init_placed}
use Rattle.strc_parse.proofs.control.StatementRules.init.Goals as goal

pub returns-clause-placed : goal.returns-clause-placed
returns-clause-placed g c = grind (arith, init_placed)
