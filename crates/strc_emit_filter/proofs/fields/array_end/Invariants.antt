use Rattle.std.proofs.Common.{◌≡◌, ◌+◌, ◌-◌, drop, length}
use Rattle.strc_emit_filter.specs.Variables.{run_of}
use Rattle.strc_emit_filter.proofs.fields.array_end.Given as goal

-- the slots that were looked at are in the array
abbrev pub invariant-loop-end : goal.invariant-loop-end
invariant-loop-end l = l.end + run_of l.from (drop l.end l.arrays)
    ≡ l.from + run_of l.from (drop l.from l.arrays)

abbrev pub decreases-loop-end : goal.decreases-loop-end
decreases-loop-end l = length l.arrays - l.end
