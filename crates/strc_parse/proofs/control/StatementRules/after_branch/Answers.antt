use Rattle.std.proofs.Common.{arith}
use Rattle.strc_parse.proofs.Placed.{if_within}
use Rattle.strc_parse.proofs.control.StatementRules.after_branch.Goals as goal

pub returns-else-is_keyword-clause-placed : goal.returns-else-is_keyword-clause-placed
returns-else-is_keyword-clause-placed g c = grind (arith, if_within)
