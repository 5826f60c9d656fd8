use Rattle.std.proofs.Common.{◌≡◌, ◌++◌, drop}
use Rattle.strc_fuse.specs.Units.{round_units}
use Rattle.strc_fiss.proofs.unit_copies.copy_units.Given as goal

abbrev pub invariant-loop-unit : goal.invariant-loop-unit
invariant-loop-unit l =
    round_units l.copies.items ++ round_units (drop l.unit-index l.units) ≡ round_units l.units
