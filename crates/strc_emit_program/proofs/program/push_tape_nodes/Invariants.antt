use Rattle.std.proofs.Common.{◌≡◌, ◌++◌}
use Rattle.strc_emit_text.specs.Texts.{texts_below}
use Rattle.strc_emit_program.specs.Programs.{tape_at}
use Rattle.strc_emit_program.proofs.program.push_tape_nodes.Given as goal

-- the text so far
abbrev pub invariant-loop-node : goal.invariant-loop-node
invariant-loop-node l =
    l.text.items ≡ l.fn.text.items ++ texts_below (tape_at l.graph.nodes) l.node
