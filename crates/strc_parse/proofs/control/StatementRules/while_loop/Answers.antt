use Rattle.std.proofs.Common.{arith}
use Rattle.strc_parse.proofs.Placed.{while_within}
use Rattle.strc_parse.proofs.control.StatementRules.while_loop.Goals as goal

pub returns-clause-placed : goal.returns-clause-placed
returns-clause-placed g c = grind (arith, while_within)
