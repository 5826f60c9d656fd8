use Rattle.std.proofs.Common.{codes}
use Rattle.strc_emit_c.specs.Spelling.{indent, slot_text}
use Rattle.strc_emit_c.proofs.Pushing.{last_of_four}
use Rattle.strc_emit_c.proofs.blocks.push_break.Goals as goal

pub returns : goal.returns
returns c =
    last_of_four c.push_bytes-2.result c.args.text.now.items c.push_indent.new.text.items
    c.push_bytes.new.text.items c.push_slot.new.text.items c.push_bytes-2.new.text.items
    (indent c.args.depth) (codes "if (") (slot_text c.args.function.now c.args.slot)
    (codes " == 0) break;\n") c.in_ok-push_indent.ensures c.in_ok-push_bytes.ensures
    c.in_ok-push_slot.ensures c.push_bytes-2.ensures
