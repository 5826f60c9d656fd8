use Rattle.strc_emit_runs.proofs.Slides.{windows_move}
use Rattle.strc_emit_runs.proofs.windows_move.Goals as goal

pub returns : goal.returns
returns c = windows_move
