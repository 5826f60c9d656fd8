use Rattle.strc_stage_core.proofs.Starting.{first_state}
use Rattle.strc_stage_core.proofs.first_core_is_state.Goals as goal

pub returns : goal.returns
returns g c = first_state
