use Rattle.strc_elab_dataflow.proofs.Exchange.{same_round}
use Rattle.strc_elab_dataflow.proofs.rounds_laws.same_round.Goals as goal

pub returns : goal.returns
returns g c = λ meaning graph order other now within wired same valid other_valid.
    same_round meaning graph within wired order other now same valid other_valid
