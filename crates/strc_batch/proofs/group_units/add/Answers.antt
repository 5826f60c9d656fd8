use Rattle.strc_batch.proofs.UnitGroups.{added}
use Rattle.strc_batch.proofs.group_units.add.Goals as goal

pub returns : goal.returns
returns c =
    added c.args.groups.now.items c.args.group c.args.unit c.index_mut.result.now c.push.new.self
    c.requires c.index_mut.ensures.value c.in_ok-push.ensures.items
