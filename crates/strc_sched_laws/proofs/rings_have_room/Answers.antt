use Rattle.strc_sched_laws.proofs.RingRoom.{rings_have_room}
use Rattle.strc_sched_laws.proofs.rings_have_room.Goals as goal

pub returns : goal.returns
returns c = rings_have_room
