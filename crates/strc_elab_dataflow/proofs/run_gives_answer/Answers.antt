use Rattle.strc_elab_dataflow.proofs.Theorem.{stream_run_gives}
use Rattle.strc_elab_dataflow.proofs.run_gives_answer.Goals as goal

pub returns : goal.returns
returns g c = stream_run_gives
