use Rattle.strc_elab_dataflow.proofs.Theorem.{chain_runs}
use Rattle.strc_elab_dataflow.proofs.chain_runs_in_order.Goals as goal

pub returns : goal.returns
returns g c = chain_runs
