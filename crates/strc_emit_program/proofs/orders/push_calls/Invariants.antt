use Rattle.std.proofs.Common.{◌≡◌, ◌++◌}
use Rattle.strc_emit_text.specs.Texts.{texts_below}
use Rattle.strc_emit_program.specs.Orders.{call_at}
use Rattle.strc_emit_program.proofs.orders.push_calls.Given as goal

-- the text so far
abbrev pub invariant-loop-place : goal.invariant-loop-place
invariant-loop-place l =
    l.text.items ≡ l.fn.text.items ++ texts_below (call_at l.phase l.calls l.part) l.place
