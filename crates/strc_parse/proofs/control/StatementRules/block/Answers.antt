use Rattle.std.proofs.Common.{arith}
use Rattle.strc_parse.proofs.Placed.{block_within}
use Rattle.strc_parse.proofs.control.StatementRules.block.Goals as goal

pub returns-clause-placed : goal.returns-clause-placed
returns-clause-placed g c = grind (arith, block_within)
