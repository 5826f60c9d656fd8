use Rattle.strc_stage_core.proofs.Endings.{all_ended}
use Rattle.strc_stage_core.proofs.over_is_ended.Goals as goal

pub returns : goal.returns
returns g c = all_ended
