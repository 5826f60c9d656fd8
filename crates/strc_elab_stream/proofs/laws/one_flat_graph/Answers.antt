use Rattle.strc_elab_stream.proofs.OneGraph.{one_graph}
use Rattle.strc_elab_stream.proofs.laws.one_flat_graph.Goals as goal

pub returns : goal.returns
returns c = one_graph
