use Rattle.strc_stage_core.proofs.Acts.{acts_within, most_acts-state, acts_grow}
use Rattle.strc_stage_core.proofs.events_are_counted.Goals as goal

pub returns : goal.returns
returns g c = λ work start core state. (
  acts_within work start core state,
  most_acts-state work start core state,
  acts_grow work start core state,
)
