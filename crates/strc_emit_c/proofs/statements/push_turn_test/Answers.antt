use Rattle.std.proofs.Common.{◌++◌, codes, decimal}
use Rattle.strc_work_meaning.specs.declared.fault.Cause.TheVariants as cause
use Rattle.strc_emit_c.specs.Spelling.{indent, leave_text}
use Rattle.strc_emit_c.proofs.Pushing.{last, last_of_four}
use Rattle.strc_emit_c.proofs.statements.push_turn_test.Goals as goal

pub returns : goal.returns
returns c =
    let leave = leave_text c.args.function.now cause.Turns in
    last c.push_way_out.result c.args.text.now.items c.push_indent.new.text.items
    c.push_way_out.new.text.items (indent c.args.depth)
    (((codes "if (turns >= " ++ decimal c.args.limit) ++ codes ") ") ++ leave)
    c.in_ok-push_indent.ensures
    (last_of_four c.push_way_out.result c.push_indent.new.text.items
    c.push_bytes.new.text.items c.push_number.new.text.items c.push_bytes-2.new.text.items
    c.push_way_out.new.text.items (codes "if (turns >= ") (decimal c.args.limit) (codes ") ")
    leave c.in_ok-push_bytes.ensures c.in_ok-push_number.ensures c.in_ok-push_bytes-2.ensures
    c.push_way_out.ensures)
