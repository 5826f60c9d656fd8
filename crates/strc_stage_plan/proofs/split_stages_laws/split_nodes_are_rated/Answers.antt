use Rattle.strc_stage_plan.proofs.Codes.{nodes_rated}
use Rattle.strc_stage_plan.proofs.split_stages_laws.split_nodes_are_rated.Goals as goal

pub returns : goal.returns
returns c = nodes_rated
