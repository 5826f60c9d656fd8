use Rattle.std.proofs.Common.{◌++◌, codes}
use Rattle.strc_emit_c.specs.C.{Element, Slot}
use Rattle.strc_emit_c.specs.Spelling.{assign_head, expression_text, indent, slot_text}
use Rattle.strc_emit_c.proofs.Pushing.{last_of_three, same_piece, assigned}
use Rattle.strc_emit_c.proofs.statements.push_load.Goals as goal

pub returns : goal.returns
returns c =
    let function = c.args.function.now in
    let head = assign_head function c.args.depth c.args.into in
    let value = expression_text function (Element c.args.base c.args.length (Slot c.args.index)) in
    same_piece c.push_bytes.result c.args.text.now.items c.push_bytes.new.text.items
    ((head ++ value) ++ codes ";\n")
    (indent c.args.depth
    ++ (((slot_text function c.args.into ++ codes " = ") ++ value) ++ codes ";\n"))
    (last_of_three c.push_bytes.result c.args.text.now.items c.push_target.new.text.items
    c.push_part.new.text.items c.push_bytes.new.text.items head value (codes ";\n")
    c.in_ok-push_target.ensures c.in_ok-push_part.ensures c.push_bytes.ensures)
    (assigned function c.args.depth c.args.into value)
