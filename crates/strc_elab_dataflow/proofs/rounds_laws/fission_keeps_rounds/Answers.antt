use Rattle.strc_elab_dataflow.proofs.Following.{round_follows}
use Rattle.strc_elab_dataflow.proofs.rounds_laws.fission_keeps_rounds.Goals as goal

pub returns : goal.returns
returns g c = λ meaning graph new parts blocks rounds old now is are fed agree.
    round_follows meaning graph new parts is blocks rounds old now are fed agree
