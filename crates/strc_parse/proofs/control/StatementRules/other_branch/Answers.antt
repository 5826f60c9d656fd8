use Rattle.std.proofs.Common.{arith}
use Rattle.strc_parse.proofs.Placed.{if_else_joined}
use Rattle.strc_parse.proofs.control.StatementRules.other_branch.Goals as goal

pub returns-clause-placed : goal.returns-clause-placed
returns-clause-placed g c = grind (arith, if_else_joined)
