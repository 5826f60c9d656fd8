use Rattle.strc_stage_core.proofs.Joining.{joined_state, state_parts}
use Rattle.strc_stage_core.proofs.joined_parts_are_a_state.Goals as goal

pub returns : goal.returns
returns g c = λ work start.
    (joined_state work start, state_parts work start)
