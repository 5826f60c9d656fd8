use Rattle.strc_fiss.proofs.Grouped.{added}
use Rattle.strc_fiss.proofs.channels.add.Goals as goal

pub returns : goal.returns
returns c = added c.args.groups.now.items c.args.node c.args.wire c.index_mut.result.now
    c.push.new.self
    c.requires c.index_mut.ensures.value c.in_ok-push.ensures.items
