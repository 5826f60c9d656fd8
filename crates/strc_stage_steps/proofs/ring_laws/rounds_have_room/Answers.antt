use Rattle.strc_stage_steps.proofs.Room.{rounds_have_room}
use Rattle.strc_stage_steps.proofs.ring_laws.rounds_have_room.Goals as goal

pub returns : goal.returns
returns c = rounds_have_room
