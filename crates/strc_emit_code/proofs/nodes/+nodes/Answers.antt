use Rattle.std.proofs.Common.{◌++◌, sym, ap}
use Rattle.std.specs.Box.{box_value}
use Rattle.strc_work_code.specs.Comparisons.{slot_of}
use Rattle.strc_emit_c.specs.Spelling.{lines_text, choice_text, if_line, else_line, end_line}
use Rattle.strc_emit_c.specs.Spelling.{loop_line, deeper}
use Rattle.strc_emit_c.proofs.Pushing.{last, same_piece}
use Rattle.strc_emit_code.specs.Emitted.{condition_lines}
use Rattle.strc_emit_code.specs.Texts.{node_text, nodes_text, insts_text, test_text, line_of}
use Rattle.strc_emit_code.proofs.NodeTexts.{seq_text, insts_alone, if_text, while_text}
use Rattle.strc_emit_code.proofs.NodeTexts.{called_text, as_piece, node_at, last_of_five}
use Rattle.strc_emit_code.proofs.nodes.+nodes.Goals as goal

pub push_node-returns-in-Seq : goal.push_node-returns-in-Seq
push_node-returns-in-Seq t c =
    let f = c.args.function.now in
    let items = c.deref.result.now in
    same_piece c.push_all.result c.args.text.now.items c.push_all.new.text.items
    (nodes_text f c.args.depth items) (node_text f c.args.depth c.args.node.now)
    c.push_all.ensures (seq_text f c.args.depth c.args.node.now c.in-Seq.nodes items c.in-Seq.is
    c.deref.ensures.value)

pub push_node-returns-in-BasicBlock : goal.push_node-returns-in-BasicBlock
push_node-returns-in-BasicBlock t c =
    let f = c.args.function.now in
    let items = c.deref-in-BasicBlock.result.now in
    same_piece c.push_insts.result c.args.text.now.items c.push_insts.new.text.items
    (insts_text f c.args.depth items) (node_text f c.args.depth c.args.node.now)
    c.push_insts.ensures (insts_alone f c.args.depth c.args.node.now c.in-BasicBlock.insts items
    c.in-BasicBlock.is c.deref-in-BasicBlock.ensures.value)

pub push_node-returns-in-Call : goal.push_node-returns-in-Call
push_node-returns-in-Call t c =
    let f = c.args.function.now in
    same_piece c.push_called.result c.args.text.now.items c.push_called.new.text.items
    (line_of f c.args.depth c.in-Call.call) (node_text f c.args.depth c.args.node.now)
    c.push_called.ensures
    (called_text f c.args.depth c.args.node.now c.in-Call.call c.in-Call.is)

pub push_node-returns-in_ok-push_node-in-If-2 : goal.push_node-returns-in_ok-push_node-in-If-2
push_node-returns-in_ok-push_node-in-If-2 t c =
    let f = c.args.function.now in
    let d = c.args.depth in
    let tests = lines_text f d (condition_lines c.in-If.condition) in
    let slot = slot_of c.in-If.condition in
    let one = node_text f (deeper d) (box_value c.in-If.chosen) in
    let other = node_text f (deeper d) (box_value c.in-If.other) in
    let t1 = c.push_condition.new.text.items in
    let t2 = c.push_if.new.text.items in
    let t3 = c.push_node.new.text.items in
    let t4 = c.push_else.new.text.items in
    let t5 = c.push_node-in-If.new.text.items in
    let t6 = c.push_end.new.text.items in
    same_piece c.push_end.result c.args.text.now.items t6 (tests ++ choice_text f d slot one other)
    (node_text f d c.args.node.now)
    (last c.push_end.result c.args.text.now.items t1 t6 tests (choice_text f d slot one other)
    c.in_ok-push_condition-in-If.ensures
    (last_of_five c.push_end.result t1 t2 t3 t4 t5 t6 (if_line f d slot) one (else_line d) other
    (end_line d)
    (as_piece t1 t2 (if_line f d c.slot_of.result) (if_line f d slot)
    c.in_ok-push_if-in-If.ensures (ap (if_line f d) c.slot_of.ensures))
    (as_piece t2 t3 (node_text f c.deeper.result c.deref-in-If.result.now) one
    c.in_ok-push_node-in-If.ensures (node_at f c.deeper.result (deeper d)
    c.deref-in-If.result.now (box_value c.in-If.chosen) c.deeper.ensures
    c.deref-in-If.ensures))
    c.in_ok-push_else-in-If.ensures
    (as_piece t4 t5 (node_text f c.deeper-in-If.result c.deref-in-If-2.result.now) other
    c.in_ok-push_node-in-If-2.ensures (node_at f c.deeper-in-If.result (deeper d)
    c.deref-in-If-2.result.now (box_value c.in-If.other) c.deeper-in-If.ensures
    c.deref-in-If-2.ensures))
    c.push_end.ensures))
    (sym (if_text f d c.args.node.now c.in-If.condition c.in-If.chosen c.in-If.other c.in-If.is))

pub push_node-returns-in_ok-push_node-in-While-2 :
    goal.push_node-returns-in_ok-push_node-in-While-2
push_node-returns-in_ok-push_node-in-While-2 t c =
    let f = c.args.function.now in
    let d = c.args.depth in
    let first = node_text f (deeper d) (box_value c.in-While.first) in
    let tests = test_text f (deeper d) c.in-While.condition in
    let body = node_text f (deeper d) (box_value c.in-While.body) in
    let t1 = c.push_loop.new.text.items in
    let t2 = c.push_node-in-While.new.text.items in
    let t3 = c.push_test.new.text.items in
    let t4 = c.push_node-in-While-2.new.text.items in
    let t5 = c.push_end-in-While.new.text.items in
    same_piece c.push_end-in-While.result c.args.text.now.items t5
    ((((loop_line d ++ first) ++ tests) ++ body) ++ end_line d) (node_text f d c.args.node.now)
    (last_of_five c.push_end-in-While.result c.args.text.now.items t1 t2 t3 t4 t5 (loop_line d)
    first tests body (end_line d) c.in_ok-push_loop-in-While.ensures
    (as_piece t1 t2 (node_text f c.deeper-in-While.result c.deref-in-While.result.now) first
    c.in_ok-push_node-in-While.ensures (node_at f c.deeper-in-While.result (deeper d)
    c.deref-in-While.result.now (box_value c.in-While.first) c.deeper-in-While.ensures
    c.deref-in-While.ensures))
    (as_piece t2 t3 (test_text f c.deeper-in-While-2.result c.in-While.condition) tests
    c.in_ok-push_test-in-While.ensures
    (ap (λ k. test_text f k c.in-While.condition) c.deeper-in-While-2.ensures))
    (as_piece t3 t4 (node_text f c.deeper-in-While-3.result c.deref-in-While-2.result.now) body
    c.in_ok-push_node-in-While-2.ensures (node_at f c.deeper-in-While-3.result (deeper d)
    c.deref-in-While-2.result.now (box_value c.in-While.body) c.deeper-in-While-3.ensures
    c.deref-in-While-2.ensures))
    c.push_end-in-While.ensures)
    (sym (while_text f d c.args.node.now c.in-While.first c.in-While.condition c.in-While.body
    c.in-While.field-3 c.in-While.is))
