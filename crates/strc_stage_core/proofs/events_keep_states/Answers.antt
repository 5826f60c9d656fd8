use Rattle.strc_stage_core.proofs.Events.{state_after}
use Rattle.strc_stage_core.proofs.events_keep_states.Goals as goal

pub returns : goal.returns
returns g c = λ work old new event happens start state.
    state_after work start old event new state happens
