use Rattle.strc_stage_steps.proofs.DealtRoom.{dealt_states_have_room}
use Rattle.strc_stage_steps.proofs.laws.dealt_states_have_room.Goals as goal

pub returns : goal.returns
returns c = dealt_states_have_room
