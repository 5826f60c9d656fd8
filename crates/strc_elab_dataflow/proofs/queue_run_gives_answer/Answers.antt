use Rattle.strc_elab_dataflow.proofs.Theorem.{stream_queue_run}
use Rattle.strc_elab_dataflow.proofs.queue_run_gives_answer.Goals as goal

pub returns : goal.returns
returns g c = stream_queue_run
