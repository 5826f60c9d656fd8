use Rattle.strc_stage_core.proofs.Progress.{progress}
use Rattle.strc_stage_core.proofs.Endings.{over_allows_none}
use Rattle.strc_stage_core.proofs.some_event_is_allowed.Goals as goal

pub returns : goal.returns
returns g c = λ work start core state.
    (progress work start core state, over_allows_none work start core state)
