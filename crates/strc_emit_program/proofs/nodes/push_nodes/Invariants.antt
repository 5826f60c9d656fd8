use Rattle.std.proofs.Common.{◌≡◌, ◌++◌, ℕ, List}
use Rattle.strc_emit_program.specs.Programs.{AreTexts, IsNumbered}
use Rattle.strc_emit_program.proofs.nodes.push_nodes.Given as goal

-- the texts so far
abbrev pub invariant-loop-node : goal.invariant-loop-node
invariant-loop-node l = (added : List ℕ) × AreTexts (IsNumbered l.network) l.node added
    × (l.text.items ≡ l.fn.text.items ++ added)
