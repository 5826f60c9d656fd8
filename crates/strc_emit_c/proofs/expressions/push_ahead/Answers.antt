use Rattle.std.proofs.Common.{codes}
use Rattle.strc_emit_c.specs.Spelling.{slot_text}
use Rattle.strc_emit_c.proofs.Pushing.{last_of_three}
use Rattle.strc_emit_c.proofs.expressions.push_ahead.Goals as goal

pub returns : goal.returns
returns c =
    last_of_three c.push_bytes-2.result c.args.text.now.items c.push_bytes.new.text.items
    c.push_slot.new.text.items c.push_bytes-2.new.text.items (codes "in[popped + ")
    (slot_text c.args.function.now c.args.from) (codes "]") c.in_ok-push_bytes.ensures
    c.in_ok-push_slot.ensures c.push_bytes-2.ensures
