use Rattle.strc_elab_dataflow.proofs.Still.{stays_still}
use Rattle.strc_elab_dataflow.proofs.rounds_laws.stays_still.Goals as goal

pub returns : goal.returns
returns g c = λ meaning graph share v order now next filter state silent went.
    stays_still meaning graph share v filter order now next state silent went
