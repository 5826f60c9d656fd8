use Rattle.strc_stage_core.proofs.Acts.{rounds_stay}
use Rattle.strc_stage_core.proofs.Taking.{stage_rounds_are, each_within_rounds}
use Rattle.strc_stage_core.proofs.rounds_stay.Goals as goal

pub returns : goal.returns
returns g c = λ work start core state. (
  rounds_stay work start core state,
  stage_rounds_are work start core state,
  each_within_rounds work start core state,
)
