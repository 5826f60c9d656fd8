use Rattle.strc_stage_plan.proofs.RunRows as rows
use Rattle.strc_stage_plan.proofs.split_laws.run_row.Goals as goal

pub returns : goal.returns
returns c = rows.run_row
