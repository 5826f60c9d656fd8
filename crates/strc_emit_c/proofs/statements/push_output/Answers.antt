use Rattle.std.proofs.Common.{◌++◌, codes}
use Rattle.strc_emit_c.specs.Spelling.{indent, slot_text}
use Rattle.strc_emit_c.proofs.Pushing.{last, last_of_three}
use Rattle.strc_emit_c.proofs.statements.push_output.Goals as goal

pub returns : goal.returns
returns c =
    let slot = slot_text c.args.function.now c.args.from in
    last c.push_bytes-2.result c.args.text.now.items c.push_indent.new.text.items
    c.push_bytes-2.new.text.items (indent c.args.depth)
    ((codes "out[pushed] = " ++ slot) ++ codes ";\n") c.in_ok-push_indent.ensures
    (last_of_three c.push_bytes-2.result c.push_indent.new.text.items
    c.push_bytes.new.text.items c.push_slot.new.text.items c.push_bytes-2.new.text.items
    (codes "out[pushed] = ") slot (codes ";\n") c.in_ok-push_bytes.ensures
    c.in_ok-push_slot.ensures c.push_bytes-2.ensures)
