use Rattle.strc_cli_input.proofs.Given.{given_begins_so}
use Rattle.strc_cli_input.proofs.input_laws.given_begins_so.Goals as goal

pub returns : goal.returns
returns c = given_begins_so
