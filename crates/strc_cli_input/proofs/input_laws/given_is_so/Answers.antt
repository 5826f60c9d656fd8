use Rattle.strc_cli_input.proofs.Given.{given_is_so}
use Rattle.strc_cli_input.proofs.input_laws.given_is_so.Goals as goal

pub returns : goal.returns
returns c = given_is_so
