use Rattle.strc_stage_core.proofs.Stopping.{runs_stay_stopped}
use Rattle.strc_stage_core.proofs.stops_stay.Goals as goal

pub returns : goal.returns
returns g c = runs_stay_stopped
