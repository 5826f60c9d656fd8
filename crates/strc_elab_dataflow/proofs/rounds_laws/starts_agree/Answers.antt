use Rattle.strc_elab_dataflow.proofs.Numbers.{starts_agree}
use Rattle.strc_elab_dataflow.proofs.rounds_laws.starts_agree.Goals as goal

pub returns : goal.returns
returns g c = λ meaning graph parts node_of part_of old owners begun.
    starts_agree meaning graph parts node_of part_of old owners begun
