use Rattle.std.proofs.Common.{◌≡◌, ◌++◌}
use Rattle.std.proofs.Common.{replicate}
use Rattle.strc_elab_flattening.proofs.loops.repeat.Given as goal

-- so many are added
abbrev pub invariant-loop-index : goal.invariant-loop-index
invariant-loop-index l = l.loops.items ≡ l.initial.loops.items ++ replicate l._index l.outer
