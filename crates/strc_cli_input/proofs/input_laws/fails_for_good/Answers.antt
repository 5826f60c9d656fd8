use Rattle.strc_cli_input.proofs.Inputs.{fails_for_good}
use Rattle.strc_cli_input.proofs.input_laws.fails_for_good.Goals as goal

pub returns : goal.returns
returns c = fails_for_good
