use Rattle.std.proofs.Common.{subst}
use Rattle.strc_batch.specs.Batches.{HasManyTurns, IsManyTurns}
use Rattle.strc_fuse.specs.Units.{round_units}
use Rattle.strc_batch.proofs.UnitGroups.{group_many}
use Rattle.strc_batch.proofs.batch_units.batch_units.Goals as goal

pub returns-in-Err-clause-none : goal.returns-in-Err-clause-none
returns-in-Err-clause-none c =
    group_many c.args.groups.now c.loop-group.group-index c.group-item.result c.args.rounds
    c.in-Err.error c.loop-group-test.true c.group-item.is
    (subst (λ l. IsManyTurns (HasManyTurns (round_units l) c.args.rounds) c.in-Err.error)
    c.deref.ensures.value c.in-Err.ensures.none)
