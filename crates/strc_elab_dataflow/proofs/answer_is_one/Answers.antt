use Rattle.strc_elab_dataflow.proofs.Theorem.{stream_one_answer}
use Rattle.strc_elab_dataflow.proofs.answer_is_one.Goals as goal

pub returns : goal.returns
returns g c = stream_one_answer
