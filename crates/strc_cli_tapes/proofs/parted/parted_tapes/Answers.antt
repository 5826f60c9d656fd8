use Rattle.strc_cli_tapes.proofs.PartedTapes.{parted_from}
use Rattle.strc_cli_tapes.proofs.parted.parted_tapes.Goals as goal

pub returns : goal.returns
returns c = λ given tapes node. parted_from given 0 tapes node
