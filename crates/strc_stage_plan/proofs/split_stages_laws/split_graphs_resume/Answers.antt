use Rattle.strc_stage_plan.proofs.Fused.{graphs_resume}
use Rattle.strc_stage_plan.proofs.split_stages_laws.split_graphs_resume.Goals as goal

pub returns : goal.returns
returns c = graphs_resume
