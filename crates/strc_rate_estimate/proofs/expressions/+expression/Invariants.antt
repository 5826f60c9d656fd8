use Rattle.std.proofs.Common.{◌≡◌, ◌≤◌, ◌+◌, ◌*◌, max, drop, map}
use Rattle.strc_parse_tree.proofs.tree.Expr.TheLaws.{the_size}
use Rattle.strc_parse_tree.specs.View.{listed_view}
use Rattle.strc_rate_estimate.specs.Estimates.{arguments_estimate, sum}
use Rattle.strc_rate_estimate.specs.Tables.{helper_view}
use Rattle.strc_rate_estimate.specs.declared.sums.TheConstants.{ESTIMATE_LIMIT}
use Rattle.strc_rate_estimate.proofs.expressions.+expression.Given as goal

abbrev pub decreases-expression_estimate : goal.decreases-expression_estimate
decreases-expression_estimate l = 2 * the_size l.value.now

abbrev pub decreases-operands_estimate : goal.decreases-operands_estimate
decreases-operands_estimate l = 2 * max (the_size l.left.now) (the_size l.right.now) + 1

abbrev pub decreases-sides_estimate : goal.decreases-sides_estimate
decreases-sides_estimate l = 2 * max (the_size l.chosen.now) (the_size l.other.now) + 1

abbrev pub decreases-arguments_estimate : goal.decreases-arguments_estimate
decreases-arguments_estimate l = 2 * goal.size-arguments_estimate l + 1

abbrev pub invariant-arguments_estimate-loop-argument :
    goal.invariant-arguments_estimate-loop-argument
invariant-arguments_estimate-loop-argument l =
    (sum l.total (arguments_estimate (map helper_view l.fn.helpers)
    (listed_view (drop l.argument-index l.arguments)))
    ≡ sum 0 (arguments_estimate (map helper_view l.fn.helpers) (listed_view l.arguments)))
    × (l.total ≤ ESTIMATE_LIMIT)
