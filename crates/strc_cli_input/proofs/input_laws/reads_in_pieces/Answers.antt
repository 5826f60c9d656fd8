use Rattle.strc_cli_input.proofs.Bytes.{read_append}
use Rattle.strc_cli_input.proofs.input_laws.reads_in_pieces.Goals as goal

pub returns : goal.returns
returns c = read_append
