use Rattle.std.proofs.Common.{◌≡◌, ◌++◌}
use Rattle.strc_fiss.specs.Numbers.{up_to}
use Rattle.strc_fiss.proofs.parts.push_loops.Given as goal

abbrev pub invariant-loop-part : goal.invariant-loop-part
invariant-loop-part l = l.loops.items ≡ l.fn.loops.items ++ up_to (λ part. l.outer) l.part
