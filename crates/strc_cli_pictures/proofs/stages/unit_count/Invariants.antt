use Rattle.std.proofs.Common.{◌≡◌, ◌≤◌, ◌+◌, ◌-◌, drop, length}
use Rattle.strc_cli_pictures.specs.Stages.{unit_count}
use Rattle.strc_cli_pictures.proofs.stages.unit_count.Given as goal

-- those so far, and those of the units left
abbrev pub invariant-loop-count : goal.invariant-loop-count
invariant-loop-count l = record {
  within : l.count ≤ length l.units;
  counts : l.count + unit_count l.end (drop l.count l.units) ≡ unit_count l.end l.units;
}

abbrev pub decreases-loop-count : goal.decreases-loop-count
decreases-loop-count l = length l.units - l.count
