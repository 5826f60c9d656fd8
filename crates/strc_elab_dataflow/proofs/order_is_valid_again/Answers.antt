use Rattle.strc_elab_dataflow.proofs.Again.{each_round}
use Rattle.strc_elab_dataflow.proofs.order_is_valid_again.Goals as goal

pub returns : goal.returns
returns g c = each_round
