use Rattle.strc_elab_dataflow.proofs.Theorem.{queues_hold}
use Rattle.strc_elab_dataflow.proofs.queues_hold_the_rest.Goals as goal

pub returns : goal.returns
returns g c = queues_hold
