use Rattle.std.proofs.Common.{◌≡◌, map, take}
use Rattle.std.specs.Prelude.{vec_items}
use Rattle.strc_emit.proofs.ports.rows.Given as goal

-- the rows so far
abbrev pub invariant-loop-node : goal.invariant-loop-node
invariant-loop-node l = map vec_items l.rows.items ≡ take l.node l.ports
