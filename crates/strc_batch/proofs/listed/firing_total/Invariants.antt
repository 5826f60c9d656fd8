use Rattle.std.proofs.Common.{◌≡◌, ◌-◌, ◌^◌, min, take}
use Rattle.strc_fuse.specs.Units.{round_units}
use Rattle.strc_batch.specs.Listed as spec
use Rattle.strc_batch.proofs.listed.firing_total.Given as goal

abbrev pub invariant-loop-unit : goal.invariant-loop-unit
invariant-loop-unit l =
    l.firings ≡ min (spec.firing_total (round_units (take l.unit-index l.units))) (2 ^ 64 - 1)
