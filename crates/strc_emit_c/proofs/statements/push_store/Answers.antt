use Rattle.std.proofs.Common.{◌++◌, codes}
use Rattle.strc_emit_c.specs.C.{Element, Slot}
use Rattle.strc_emit_c.specs.Spelling.{indent, slot_text, expression_text}
use Rattle.strc_emit_c.proofs.Pushing.{last, last_of_four}
use Rattle.strc_emit_c.proofs.statements.push_store.Goals as goal

pub returns : goal.returns
returns c =
    let function = c.args.function.now in
    let part = expression_text function (Element c.args.base c.args.length (Slot c.args.index)) in
    let slot = slot_text function c.args.from in
    last c.push_bytes-2.result c.args.text.now.items c.push_indent.new.text.items
    c.push_bytes-2.new.text.items (indent c.args.depth)
    (((part ++ codes " = ") ++ slot) ++ codes ";\n") c.in_ok-push_indent.ensures
    (last_of_four c.push_bytes-2.result c.push_indent.new.text.items c.push_part.new.text.items
    c.push_bytes.new.text.items c.push_slot.new.text.items c.push_bytes-2.new.text.items
    part (codes " = ") slot (codes ";\n") c.in_ok-push_part.ensures c.in_ok-push_bytes.ensures
    c.in_ok-push_slot.ensures c.push_bytes-2.ensures)
