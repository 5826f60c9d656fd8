use Rattle.std.proofs.Common.{refl}
use Rattle.strc_cli_input.proofs.input_laws.given_row.Goals as goal

pub returns : goal.returns
returns c = record { numbers = refl; wrong = refl }
