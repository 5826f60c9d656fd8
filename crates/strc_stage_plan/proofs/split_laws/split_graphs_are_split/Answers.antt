use Rattle.strc_stage_plan.proofs.Lawful.{graphs_are_split}
use Rattle.strc_stage_plan.proofs.split_laws.split_graphs_are_split.Goals as goal

pub returns : goal.returns
returns c = graphs_are_split
