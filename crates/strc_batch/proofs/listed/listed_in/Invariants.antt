use Rattle.std.proofs.Common.{◌≡◌, ◌-◌, ◌^◌, min, take}
use Rattle.strc_batch.specs.Listed as spec
use Rattle.strc_batch.proofs.listed.listed_in.Given as goal

abbrev pub invariant-loop-units : goal.invariant-loop-units
invariant-loop-units l =
    l.listed ≡ min (spec.listed_in (spec.units_in (take l.units-index l.groups))) (2 ^ 64 - 1)
