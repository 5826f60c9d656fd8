use Rattle.std.proofs.Common.{◌≡◌, map, take}
use Rattle.strc_sched_rings.specs.Units.{unit_view}
use Rattle.strc_sched_rings.proofs.units.copy_units.Given as goal

abbrev pub invariant-loop-unit : goal.invariant-loop-unit
invariant-loop-unit l = map unit_view l.copies.items ≡ map unit_view (take l.unit-index l.units)
