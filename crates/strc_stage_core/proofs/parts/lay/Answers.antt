use Rattle.std.proofs.Common.{vec_items, vec_capacity}
use Rattle.strc_stage_core.proofs.Moves.{lays, room_stays}
use Rattle.strc_stage_core.proofs.parts.lay.Goals as goal

pub returns-clause-lays : goal.returns-clause-lays
returns-clause-lays g c = lays vec_items vec_capacity c.args.links.now.items c.args.to
    c.index_mut.result.now c.push_reserved.new.self c.args.parcel c.index_mut.ensures.value
    c.push_reserved.ensures.items

pub returns-clause-room : goal.returns-clause-room
returns-clause-room g c = room_stays vec_items vec_capacity c.args.links.now.items c.args.to
    c.index_mut.result.now c.push_reserved.new.self c.index_mut.ensures.value
    c.push_reserved.ensures.capacity
