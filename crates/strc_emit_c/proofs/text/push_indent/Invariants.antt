use Rattle.std.proofs.Common.{◌≡◌, ◌++◌}
use Rattle.strc_emit_c.specs.Spelling.{indent}
use Rattle.strc_emit_c.proofs.text.push_indent.Given as goal

-- the text so far and what is left of the beginning are the whole
abbrev pub invariant-loop-left : goal.invariant-loop-left
invariant-loop-left l = l.text.items ++ indent l.left ≡ l.fn.text.items ++ indent l.fn.depth

abbrev pub decreases-loop-left : goal.decreases-loop-left
decreases-loop-left l = l.left
