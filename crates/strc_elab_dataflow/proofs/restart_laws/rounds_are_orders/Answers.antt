use Rattle.strc_elab_dataflow.proofs.Rounds.{rounds_are_orders}
use Rattle.strc_elab_dataflow.proofs.restart_laws.rounds_are_orders.Goals as goal

pub returns : goal.returns
returns g c = rounds_are_orders
