use Rattle.strc_emit_passes.proofs.Nodes.{passing_nodes_fire}
use Rattle.strc_emit_passes.proofs.passing_nodes_fire.Goals as goal

pub returns : goal.returns
returns c = passing_nodes_fire
