use Rattle.std.proofs.Common.{vec_items, vec_capacity}
use Rattle.strc_stage_core.proofs.Moves.{pulls, room_stays}
use Rattle.strc_stage_core.proofs.parts.pull.Goals as goal

pub returns-clause-pulls : goal.returns-clause-pulls
returns-clause-pulls g c = pulls vec_items vec_capacity c.args.links.now.items c.args.from
    c.index_mut.result.now c.remove.new.self c.remove.result c.requires c.index_mut.ensures.value
    c.remove.ensures.value c.remove.ensures.items

pub returns-clause-room : goal.returns-clause-room
returns-clause-room g c = room_stays vec_items vec_capacity c.args.links.now.items c.args.from
    c.index_mut.result.now c.remove.new.self c.index_mut.ensures.value
    c.remove.ensures.capacity
