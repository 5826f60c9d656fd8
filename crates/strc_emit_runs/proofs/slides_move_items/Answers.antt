use Rattle.strc_emit_runs.proofs.Slides.{slides_move_items}
use Rattle.strc_emit_runs.proofs.slides_move_items.Goals as goal

pub returns : goal.returns
returns c = slides_move_items
