use Rattle.std.proofs.Common.{◌≡◌, ◌+◌, ◌*◌, drop}
use Rattle.strc_parse_tree.proofs.tree.Expr.TheLaws.{the_size}
use Rattle.strc_parse_tree.specs.View.{listed_view}
use Rattle.strc_work_rules.specs.Resolution.{arguments_resolved}
use Rattle.strc_work_rules.specs.Verdicts.{context_of}
use Rattle.strc_work_rules.proofs.Resolved.{arguments_after}
use Rattle.strc_work_rules.proofs.expression_rules.+expression.Given as goal

abbrev pub decreases-resolve_expr : goal.decreases-resolve_expr
decreases-resolve_expr l = 4 * the_size l.value.now + 1

abbrev pub decreases-resolve_as : goal.decreases-resolve_as
decreases-resolve_as l = 4 * the_size l.value.now + 2

abbrev pub decreases-resolve_arguments : goal.decreases-resolve_arguments
decreases-resolve_arguments l = 4 * goal.size-resolve_arguments l + 3

abbrev pub decreases-resolve_call : goal.decreases-resolve_call
decreases-resolve_call l = 4 * goal.size-resolve_call l + 4

abbrev pub invariant-resolve_arguments-loop-argument :
    goal.invariant-resolve_arguments-loop-argument
invariant-resolve_arguments-loop-argument l =
    arguments_after l.resolved.items (arguments_resolved (context_of l.context) l.names
    (listed_view (drop l.argument-index l.arguments)))
    ≡ arguments_resolved (context_of l.context) l.names (listed_view l.arguments)
