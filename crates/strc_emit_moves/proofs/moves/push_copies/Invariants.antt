use Rattle.std.proofs.Common.{◌≡◌, ◌++◌}
use Rattle.strc_emit_text.specs.Texts.{texts_below}
use Rattle.strc_emit_moves.specs.Moves.{copy_text}
use Rattle.strc_emit_moves.proofs.moves.push_copies.Given as goal

-- the text so far
abbrev pub invariant-loop-port : goal.invariant-loop-port
invariant-loop-port l =
    l.text.items ≡ l.fn.text.items ++ texts_below (copy_text l.network l.phase l.node l.carried) l.port
