use Rattle.strc_balance.proofs.Appending.{pushed_at}
use Rattle.strc_balance.proofs.incidence.Incidence.add.Goals as goal

pub returns : goal.returns
returns c = pushed_at c.self.inside.channels.items c.args.self.now c.args.node c.args.channel
    c.index_mut.result.now c.push.new.self c.self.view_is c.requires c.index_mut.ensures.value
    c.in_ok-push.ensures.items
