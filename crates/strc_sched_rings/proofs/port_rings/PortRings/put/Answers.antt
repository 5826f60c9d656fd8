use Rattle.strc_sched_rings.proofs.Wirings.{put_at}
use Rattle.strc_sched_rings.proofs.port_rings.PortRings.put.Goals as goal

pub returns : goal.returns
returns c = put_at c.self.inside.rings.items c.args.self.now c.args.node c.args.port c.args.ring
    c.index_mut.result.now c.self.view_is c.requires.node c.index_mut.ensures.value
