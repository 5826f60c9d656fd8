use Rattle.strc_elab_dataflow.proofs.Rewired.{chain_gives_stream_answer}
use Rattle.strc_elab_dataflow.proofs.staging_laws.chain_gives_stream_answer.Goals as goal

pub returns : goal.returns
returns g c = chain_gives_stream_answer
