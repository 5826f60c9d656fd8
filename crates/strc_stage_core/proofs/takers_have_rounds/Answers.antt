use Rattle.strc_stage_core.proofs.Taking.{taker_in_time, taker_has_rounds}
use Rattle.strc_stage_core.proofs.takers_have_rounds.Goals as goal

pub returns : goal.returns
returns g c = λ work start core state actor allowed. (
  taker_has_rounds work start core state actor allowed,
  taker_in_time work start core state actor allowed,
)
