use Rattle.std.proofs.Common.{◌≡◌, ◌+◌, ◌*◌, ◌++◌, max, drop, Some}
use Rattle.strc_parse_tree.proofs.tree.Expr.TheLaws.{the_size}
use Rattle.strc_parse_tree.specs.View.{listed_view}
use Rattle.strc_rate.specs.Counts.{no_items, sequence, arguments_counts}
use Rattle.strc_rate.specs.Peeks.{arguments_sites}
use Rattle.strc_rate.proofs.expression_peeks.+expression.Given as goal

abbrev pub decreases-check_peeks_in_expression : goal.decreases-check_peeks_in_expression
decreases-check_peeks_in_expression l = 4 * the_size l.value.now

abbrev pub decreases-check_peek : goal.decreases-check_peek
decreases-check_peek l = 4 * the_size l.index.now + 1

abbrev pub decreases-check_peeks_in_right : goal.decreases-check_peeks_in_right
decreases-check_peeks_in_right l = 4 * the_size l.right.now + 1

abbrev pub decreases-check_peeks_in_operands : goal.decreases-check_peeks_in_operands
decreases-check_peeks_in_operands l = 4 * max (the_size l.left.now) (the_size l.right.now) + 2

abbrev pub decreases-check_peeks_in_sides : goal.decreases-check_peeks_in_sides
decreases-check_peeks_in_sides l = 4 * max (the_size l.chosen.now) (the_size l.other.now) + 1

abbrev pub decreases-check_peeks_in_conditional : goal.decreases-check_peeks_in_conditional
decreases-check_peeks_in_conditional l =
    4 * max (the_size l.condition.now) (max (the_size l.chosen.now) (the_size l.other.now)) + 2

abbrev pub decreases-check_peeks_in_arguments : goal.decreases-check_peeks_in_arguments
decreases-check_peeks_in_arguments l = 4 * goal.size-check_peeks_in_arguments l + 1

abbrev pub invariant-check_peeks_in_arguments-loop-argument :
    goal.invariant-check_peeks_in_arguments-loop-argument
invariant-check_peeks_in_arguments-loop-argument l = record {
  counted : sequence l.counts (arguments_counts (listed_view (drop l.argument-index l.arguments)))
      ≡ arguments_counts (listed_view l.arguments);
  runnable : sequence l.counts (Some no_items) ≡ l.counts;
  reported : l.sites.items ++ arguments_sites l.names l.here
      (listed_view (drop l.argument-index l.arguments)) ≡ l.initial.sites.items
      ++ arguments_sites l.names l.fn.popped (listed_view l.arguments);
}
