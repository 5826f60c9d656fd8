use Rattle.std.proofs.Common.{◌≡◌, ◌≤◌, length}
use Rattle.strc_emit_text.specs.Numbers.{kept}
use Rattle.strc_emit_text.proofs.numbers.kept.Given as goal

-- the numbers that were looked at are 0
abbrev pub invariant-loop-count : goal.invariant-loop-count
invariant-loop-count l = record {
  within : l.count ≤ length l.numbers;
  same : kept l.numbers l.count ≡ kept l.numbers (length l.numbers);
}

abbrev pub decreases-loop-count : goal.decreases-loop-count
decreases-loop-count l = l.count
