use Rattle.strc_parse_grammar.proofs.Exact.{unambiguous}
use Rattle.strc_parse_grammar.proofs.laws.one_tree.Goals as goal

pub returns : goal.returns
returns c = unambiguous
