use Rattle.strc_cli_input.proofs.Inputs.{reads_ints}
use Rattle.strc_cli_input.proofs.input_laws.reads_ints.Goals as goal

pub returns : goal.returns
returns c = reads_ints
