use Rattle.strc_elab_dataflow.proofs.StagedRun.{stages_give_answer}
use Rattle.strc_elab_dataflow.proofs.staging_laws.stages_give_answer.Goals as goal

pub returns : goal.returns
returns g c = stages_give_answer
