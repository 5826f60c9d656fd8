use Rattle.std.proofs.Common.{◌≡◌, ◌≤◌, drop, min}
use Rattle.strc_batch.specs.Choice as spec
use Rattle.strc_fuse.specs.Units.{round_units}
use Rattle.strc_batch.proofs.choice.least_turns.Given as goal

abbrev pub invariant-loop-unit : goal.invariant-loop-unit
invariant-loop-unit l = record {
  least : min l.least (spec.least_turns (round_units (drop l.unit-index l.units)))
      ≡ spec.least_turns (round_units l.units);
  few : l.least ≤ 64;
}
