use Rattle.strc_stage_core.proofs.Gathering.{gathers_all}
use Rattle.strc_stage_core.proofs.collector_gathers.Goals as goal

pub returns : goal.returns
returns g c = λ work first collector taken made runs none.
    gathers_all work first taken made collector runs none
