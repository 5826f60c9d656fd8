use Rattle.strc_elab_dataflow.proofs.Counted.{blocks_fed}
use Rattle.strc_elab_dataflow.proofs.rounds_laws.blocks_are_fed.Goals as goal

pub returns : goal.returns
returns g c = λ meaning graph new input parts blocks counts old keeps within is are valid
    counted_is.
    blocks_fed meaning graph input keeps within new parts is blocks counts old are valid counted_is
