use Rattle.std.proofs.Common.{◌≡◌, ◌++◌}
use Rattle.strc_emit_text.specs.Texts.{texts_below}
use Rattle.strc_emit_moves.specs.Rooms.{array_text}
use Rattle.strc_emit_moves.proofs.arrays.push_arrays.Given as goal

-- the text so far
abbrev pub invariant-loop-channel : goal.invariant-loop-channel
invariant-loop-channel l =
    l.text.items ≡ l.fn.text.items ++ texts_below (array_text l.network) l.channel
