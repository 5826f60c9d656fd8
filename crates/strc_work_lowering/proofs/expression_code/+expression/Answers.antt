use Rattle.std.proofs.Common.{◌<◌, ◌+◌, length, drop, sym, ap, ◌∙◌, arith}
use Rattle.std.proofs.lemmas.Result.{on_ok_weaker}
use Rattle.std.proofs.Math.ListN.{drop_of_length-le}
use Rattle.strc_parse_tree.specs.Tree as tree
use Rattle.strc_parse_tree.specs.View.{expr_view, listed_view}
use Rattle.strc_parse_tree.proofs.Calls.{expr_view-Call, listed_view-drop}
use Rattle.strc_work_code.specs.Nodes.{Nodes, before}
use Rattle.strc_work_code.specs.Lowering.{expr_nodes, arguments_nodes}
use Rattle.strc_work_meaning.specs.Calls.{argument_count}
use Rattle.strc_work_code.proofs.Nodes.{before_end}
use Rattle.strc_work_lowering.specs.Written.{written}
use Rattle.strc_work_lowering.proofs.Emitted.{arguments_nodes_more}
use Rattle.strc_work_lowering.proofs.expression_code.+expression.Goals as goal

pub emit_arguments-loop-argument-preserved : goal.emit_arguments-loop-argument-preserved
emit_arguments-loop-argument-preserved t c =
    let items = c.args.arguments.now in
    let i = c.loop-argument.argument-index in
    let lt : i < length items = omega arith in
    let x = c.argument-item.result in
    let left = listed_view-drop items i x lt c.argument-item.is in
    let next = c.in_ok-next.ensures.slot in
    record {
      slots = omega (arith, next, ap argument_count left, c.loop-argument.invariant.slots);
      code = arguments_nodes_more c.args.names.now c.loop-argument.slot c.in_ok-next.next
          (written c.loop-argument.code) (written c.emit_expr.new.code) (expr_view x)
          (listed_view (drop (i + 1) items)) next c.in_ok-emit_expr.ensures
          ∙ ap (λ a. before (written c.loop-argument.code)
          (arguments_nodes c.args.names.now a c.loop-argument.slot)) (sym left)
          ∙ c.loop-argument.invariant.code;
    }

pub emit_arguments-returns : goal.emit_arguments-returns
emit_arguments-returns t c =
    let items = c.args.arguments.now in
    let none = drop_of_length-le items c.loop-argument-test.false in (
      omega (arith, ap (λ l. argument_count (listed_view l)) none, c.loop-argument.invariant.slots),
      sym (before_end (written c.loop-argument.code))
          ∙ ap (λ l. before (written c.loop-argument.code)
          (arguments_nodes c.args.names.now (listed_view l) c.loop-argument.slot)) (sym none)
          ∙ c.loop-argument.invariant.code,
    )

pub emit_expr-returns-in-Call : goal.emit_expr-returns-in-Call
emit_expr-returns-in-Call t c =
    let nodes : tree.Expr → Nodes = λ e. expr_nodes c.args.names.now e c.args.into c.args.free in
    let same =
    ap (λ items. nodes (tree.Call c.in-Call.name (listed_view items))) c.deref-in-Call.ensures.value
    ∙ sym (ap nodes (expr_view-Call c.in-Call.name c.in-Call.arguments))
    ∙ ap (λ e. nodes (expr_view e)) (sym c.in-Call.is) in
    on_ok_weaker c.emit_call.result (λ h. h ∙ ap (before (written c.args.code.now)) same)
    c.emit_call.ensures
