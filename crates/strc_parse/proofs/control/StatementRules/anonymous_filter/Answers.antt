use Rattle.std.proofs.Common.{arith}
use Rattle.strc_parse.proofs.Placed.{filter_placed}
use Rattle.strc_parse.proofs.control.StatementRules.anonymous_filter.Goals as goal

pub returns-clause-placed : goal.returns-clause-placed
returns-clause-placed g c = grind (arith, filter_placed)
