use Rattle.std.proofs.Common.{◌∙◌, ap, map}
use Rattle.std.proofs.lemmas.List.{take_all}
use Rattle.strc_sched_rings.specs.Units.{unit_view}
use Rattle.strc_sched_rings.proofs.UnitLists.{same_firings}
use Rattle.strc_sched_rings.proofs.units.copy_units.Goals as goal

pub returns-clause-firings : goal.returns-clause-firings
returns-clause-firings c =
    let units = c.args.units.now in
    same_firings c.loop-unit.copies.items units
    (c.loop-unit.invariant
    ∙ ap (map unit_view) (take_all c.loop-unit.unit-index units c.loop-unit-test.false))
