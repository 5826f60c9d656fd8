use Rattle.std.proofs.Common.{◌≡◌, ◌≤◌, drop, length}
use Rattle.strc_emit_filter.specs.Filters.{names_of}
use Rattle.strc_emit_filter.proofs.filters.names_of.Given as goal

-- the names of the helper functions that were looked at
abbrev pub invariant-loop-left : goal.invariant-loop-left
invariant-loop-left l = record {
  within : l.left ≤ length l.helpers;
  names : l.names ≡ names_of (drop l.left l.helpers);
}

abbrev pub decreases-loop-left : goal.decreases-loop-left
decreases-loop-left l = l.left
