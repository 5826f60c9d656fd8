use Rattle.std.proofs.Common.{◌≡◌, ◌+◌, ◌*◌, max, drop}
use Rattle.strc_parse_tree.specs.View.{listed_view}
use Rattle.strc_parse_tree.proofs.tree.Expr.TheLaws.{the_size}
use Rattle.strc_work_code.specs.Nodes.{before}
use Rattle.strc_work_code.specs.Lowering.{arguments_nodes}
use Rattle.strc_work_meaning.specs.Calls.{argument_count}
use Rattle.strc_work_lowering.specs.Written.{written}
use Rattle.strc_work_lowering.proofs.expression_code.+expression.Given as goal

abbrev pub decreases-emit_expr : goal.decreases-emit_expr
decreases-emit_expr l = 4 * the_size l.value.now

abbrev pub decreases-emit_apart : goal.decreases-emit_apart
decreases-emit_apart l = 4 * the_size l.value.now + 1

abbrev pub decreases-emit_operand : goal.decreases-emit_operand
decreases-emit_operand l = 4 * the_size l.value.now + 1

abbrev pub decreases-emit_use : goal.decreases-emit_use
decreases-emit_use l = 4 * the_size l.operand.now + 2

abbrev pub decreases-emit_call : goal.decreases-emit_call
decreases-emit_call l = 4 * goal.size-emit_call l + 2

abbrev pub decreases-emit_arguments : goal.decreases-emit_arguments
decreases-emit_arguments l = 4 * goal.size-emit_arguments l + 1

abbrev pub decreases-emit_logical : goal.decreases-emit_logical
decreases-emit_logical l = 4 * max (the_size l.left.now) (the_size l.right.now) + 2

abbrev pub decreases-emit_operator : goal.decreases-emit_operator
decreases-emit_operator l = 4 * max (the_size l.left.now) (the_size l.right.now) + 2

abbrev pub decreases-emit_binary : goal.decreases-emit_binary
decreases-emit_binary l = 4 * max (the_size l.left.now) (the_size l.right.now) + 3

abbrev pub decreases-emit_conditional : goal.decreases-emit_conditional
decreases-emit_conditional l =
    4 * max (the_size l.condition.now) (max (the_size l.chosen.now) (the_size l.other.now)) + 2

abbrev pub invariant-emit_arguments-loop-argument : goal.invariant-emit_arguments-loop-argument
invariant-emit_arguments-loop-argument l =
    let left = listed_view (drop l.argument-index l.arguments) in
    record {
      slots : l.slot + argument_count left ≡ l.free + argument_count (listed_view l.arguments);
      code : before (written l.code) (arguments_nodes l.names left l.slot)
          ≡ before (written l.initial.code)
          (arguments_nodes l.names (listed_view l.arguments) l.free);
    }
