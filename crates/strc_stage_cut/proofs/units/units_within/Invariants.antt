use Rattle.std.proofs.Common.{◌≡◌, ◌++◌, drop}
use Rattle.strc_sched_rings.specs.Units.{unit_views}
use Rattle.strc_stage_plan.specs.Cuts.{units_within}
use Rattle.strc_stage_cut.proofs.units.units_within.Given as goal

abbrev pub invariant-loop-number : goal.invariant-loop-number
invariant-loop-number l =
    unit_views l.within.items
    ++ unit_views (units_within l.first l.next (drop l.number l.units))
    ≡ unit_views (units_within l.first l.next l.units)
