use Rattle.std.specs.Prelude.{drop}
use Rattle.strc_fuse.specs.Units.{round_units}
use Rattle.strc_stage_plan.proofs.Between.{AreLeft}
use Rattle.strc_stage_plan.proofs.unit_span.mark_units.Given as goal

abbrev pub invariant-loop-unit : goal.invariant-loop-unit
invariant-loop-unit l =
    AreLeft l.initial.marks l.marks (round_units l.round)
    (drop l.unit-index (round_units l.round))
