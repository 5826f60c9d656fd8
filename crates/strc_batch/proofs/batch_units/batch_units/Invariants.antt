use Rattle.std.proofs.Common.{◌≡◌, ◌++◌, drop}
use Rattle.std.specs.List.{flat_map}
use Rattle.strc_batch_laws.specs.Units as laws
use Rattle.strc_batch.specs.Listed.{units_in}
use Rattle.strc_fuse.specs.Units.{round_units}
use Rattle.strc_batch.proofs.batch_units.batch_units.Given as goal

abbrev pub invariant-loop-group : goal.invariant-loop-group
invariant-loop-group l =
    round_units l.units.items
    ++ flat_map (laws.batch_units l.rounds) (units_in (drop l.group-index l.groups))
    ≡ flat_map (laws.batch_units l.rounds) (units_in l.groups)
