use Rattle.std.proofs.Common.{◌≡◌, ◌+◌, ◌*◌, ◌++◌, max, drop}
use Rattle.strc_parse_tree.proofs.tree.Expr.TheLaws.{the_size}
use Rattle.strc_parse_tree.specs.View.{listed_view}
use Rattle.strc_rate.specs.Entries.{peeks_of_arguments}
use Rattle.strc_rate.specs.Peeks.{unreached}
use Rattle.strc_rate.proofs.unreachable_peeks.+expression.Given as goal

abbrev pub decreases-skip_expression : goal.decreases-skip_expression
decreases-skip_expression l = 3 * the_size l.value.now

abbrev pub decreases-skip_peek : goal.decreases-skip_peek
decreases-skip_peek l = 3 * the_size l.index.now + 1

abbrev pub decreases-skip_operands : goal.decreases-skip_operands
decreases-skip_operands l = 3 * max (the_size l.left.now) (the_size l.right.now) + 1

abbrev pub decreases-skip_conditional : goal.decreases-skip_conditional
decreases-skip_conditional l =
    3 * max (the_size l.condition.now) (max (the_size l.chosen.now) (the_size l.other.now)) + 2

abbrev pub decreases-skip_arguments : goal.decreases-skip_arguments
decreases-skip_arguments l = 3 * goal.size-skip_arguments l + 1

abbrev pub invariant-skip_arguments-loop-argument : goal.invariant-skip_arguments-loop-argument
invariant-skip_arguments-loop-argument l =
    l.sites.items ++ unreached (peeks_of_arguments
    (listed_view (drop l.argument-index l.arguments)))
    ≡ l.initial.sites.items ++ unreached (peeks_of_arguments (listed_view l.arguments))
