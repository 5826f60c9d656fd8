use Rattle.strc_elab_dataflow.proofs.Computed.{example_splitters}
use Rattle.strc_elab_dataflow.proofs.example_splitters.Goals as goal

pub returns : goal.returns
returns c = example_splitters
