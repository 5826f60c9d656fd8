use Rattle.strc_stage_core.proofs.Marks.{next_marked}
use Rattle.strc_stage_core.proofs.marks_are_last.Goals as goal

pub returns : goal.returns
returns g c = next_marked
