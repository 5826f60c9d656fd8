use Rattle.std.proofs.Common.{◌++◌, ◌-◌, codes, arith}
use Rattle.strc_emit_c.specs.Spelling.{slot_text, more_arguments}
use Rattle.strc_emit_c.proofs.Pushing.{both, piece_more, one_argument_more}
use Rattle.strc_emit_c.proofs.calls.push_more.Goals as goal

pub loop-left-preserved : goal.loop-left-preserved
loop-left-preserved c =
    let function = c.args.function.now in
    let next = c.in_ok-last.last in
    let piece = codes ", " ++ slot_text function next in
    let begun = c.loop-left.text.items in
    piece_more begun piece c.push_slot.new.text.items
    (more_arguments function next (c.loop-left.left - 1))
    (more_arguments function c.loop-left.last c.loop-left.left)
    (c.args.text.now.items ++ more_arguments function c.args.slot c.args.count)
    (both begun c.push_bytes.new.text.items c.push_slot.new.text.items (codes ", ")
    (slot_text function next) c.in_ok-push_bytes.ensures c.in_ok-push_slot.ensures)
    (one_argument_more function c.loop-left.last next c.loop-left.left
    (c.loop-left.left - 1) c.in_ok-last.ensures (omega (arith, c.loop-left-test.true)))
    c.loop-left.invariant
