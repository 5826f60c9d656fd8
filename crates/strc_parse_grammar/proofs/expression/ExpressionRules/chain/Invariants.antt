use Rattle.std.proofs.Common.{◌-◌, length}
use Rattle.strc_parse_tree.specs.View.{expr_view}
use Rattle.strc_parse_grammar.specs.Grammar.{kinds}
use Rattle.strc_parse_grammar.specs.Reading as spec
use Rattle.strc_parse_grammar.proofs.Loops.{Chaining}
use Rattle.strc_parse_grammar.proofs.expression.ExpressionRules.chain.Given as goal

abbrev pub invariant-loop-operator : goal.invariant-loop-operator
invariant-loop-operator g l =
    Chaining l.self.depth (spec.expression (l.self.depth - 1)) l.rank
    (spec.chain l.self.depth (spec.expression (l.self.depth - 1)) l.rank
    (length (kinds l.fn.tokens)) (expr_view l.fn.first) l.fn.first_height (kinds l.fn.tokens))
    (expr_view l.left) l.height (kinds l.rest)

abbrev pub decreases-loop-operator : goal.decreases-loop-operator
decreases-loop-operator g l = length (kinds l.rest)
