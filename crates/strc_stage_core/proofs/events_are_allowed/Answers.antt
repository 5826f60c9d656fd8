use Rattle.strc_stage_core.proofs.Allowed.{happens_allowed, allowed_happens}
use Rattle.strc_stage_core.proofs.events_are_allowed.Goals as goal

pub returns : goal.returns
returns g c = λ work old event. (
  happens_allowed work old event,
  λ start state allowed. allowed_happens work start old event state
      allowed,
)
