use Rattle.std.proofs.Common.{◌≡◌, ◌++◌, drop}
use Rattle.strc_elab_dataflow.specs.FusedUnits.{firings_of}
use Rattle.strc_fuse.specs.Units.{round_units}
use Rattle.strc_batch.proofs.batch_units.listed.Given as goal

abbrev pub invariant-loop-unit : goal.invariant-loop-unit
invariant-loop-unit l =
    l.nodes.items ++ firings_of (round_units (drop l.unit-index l.units))
    ≡ firings_of (round_units l.units)
