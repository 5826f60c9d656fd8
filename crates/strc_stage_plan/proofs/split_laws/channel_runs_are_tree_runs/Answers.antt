use Rattle.strc_stage_plan.proofs.Trees.{channel_runs_same}
use Rattle.strc_stage_plan.proofs.split_laws.channel_runs_are_tree_runs.Goals as goal

pub returns : goal.returns
returns c = channel_runs_same
