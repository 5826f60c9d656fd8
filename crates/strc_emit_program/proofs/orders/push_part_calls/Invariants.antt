use Rattle.std.proofs.Common.{◌≡◌, ◌++◌}
use Rattle.strc_emit_text.specs.Texts.{texts_below}
use Rattle.strc_emit_program.specs.Orders.{part_call}
use Rattle.strc_emit_program.proofs.orders.push_part_calls.Given as goal

-- the text so far
abbrev pub invariant-loop-part : goal.invariant-loop-part
invariant-loop-part l =
    l.text.items ≡ l.fn.text.items ++ texts_below (part_call l.phase) l.part
