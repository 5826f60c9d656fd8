use Rattle.strc_stage_cut.specs.Bounds.{bound_in, last_of}
use Rattle.strc_batch.specs.Listed.{units_in}
use Rattle.strc_batch.proofs.Parting.{AreParted}
use Rattle.strc_batch.proofs.group_units.parted.Given as goal

abbrev pub invariant-loop-unit : goal.invariant-loop-unit
invariant-loop-unit l =
    AreParted (bound_in l.fn.bounds) (last_of l.fn.bounds) l.round l.unit-index
    (units_in l.parts.items)
