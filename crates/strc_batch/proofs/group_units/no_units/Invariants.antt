use Rattle.std.proofs.Common.{◌≡◌, [], replicate}
use Rattle.strc_batch.specs.Listed.{units_in}
use Rattle.strc_batch.proofs.group_units.no_units.Given as goal

abbrev pub invariant-loop-group : goal.invariant-loop-group
invariant-loop-group l = units_in l.groups.items ≡ replicate l._group []
