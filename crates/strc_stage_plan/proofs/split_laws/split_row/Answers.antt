use Rattle.strc_stage_plan.proofs.Rows as rows
use Rattle.strc_stage_plan.proofs.split_laws.split_row.Goals as goal

pub returns : goal.returns
returns c = rows.split_row
