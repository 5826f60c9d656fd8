use Rattle.strc_elab_dataflow.proofs.Theorem.{orders_agree}
use Rattle.strc_elab_dataflow.proofs.orders_agree.Goals as goal

pub returns : goal.returns
returns g c = orders_agree
