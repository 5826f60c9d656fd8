use Rattle.std.proofs.Common.{◌≡◌, drop}
use Rattle.strc_emit_program.specs.Programs.{reader_from}
use Rattle.strc_emit_program.proofs.program.reader_among.Given as goal

-- no node takes the input among those that were looked at
abbrev pub invariant-loop-node : goal.invariant-loop-node
invariant-loop-node l = reader_from l.node (drop l.node l.nodes) ≡ reader_from 0 l.nodes
