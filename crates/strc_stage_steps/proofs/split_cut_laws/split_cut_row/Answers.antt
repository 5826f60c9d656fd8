use Rattle.strc_stage_steps.proofs.SplitRingsRows.{split_cut_row}
use Rattle.strc_stage_steps.proofs.split_cut_laws.split_cut_row.Goals as goal

pub returns : goal.returns
returns c = split_cut_row
