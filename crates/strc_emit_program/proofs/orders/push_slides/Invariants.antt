use Rattle.std.proofs.Common.{◌≡◌, ◌++◌}
use Rattle.strc_emit_text.specs.Texts.{texts_below}
use Rattle.strc_emit_program.specs.Orders.{slide_text}
use Rattle.strc_emit_program.proofs.orders.push_slides.Given as goal

-- the text so far
abbrev pub invariant-loop-channel : goal.invariant-loop-channel
invariant-loop-channel l =
    l.text.items ≡ l.fn.text.items ++ texts_below (slide_text l.network l.phase) l.channel
