use Rattle.std.proofs.Common.{arith}
use Rattle.strc_parse_tree.proofs.Views.{row_of_views}
use Rattle.strc_parse_grammar.specs.Streams.{composite}
use Rattle.strc_parse.proofs.declaration.composite.Goals as goal

pub returns-clause-gives : goal.returns-clause-gives
unfolding composite
returns-clause-gives c = grind (arith, row_of_views)
