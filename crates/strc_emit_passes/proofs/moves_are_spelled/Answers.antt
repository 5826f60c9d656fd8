use Rattle.strc_emit_passes.proofs.Texts.{moves_are_spelled}
use Rattle.strc_emit_passes.proofs.moves_are_spelled.Goals as goal

pub returns : goal.returns
returns c = moves_are_spelled
