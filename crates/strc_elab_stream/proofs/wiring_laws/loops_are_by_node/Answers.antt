use Rattle.strc_elab_stream.proofs.Loops.{loops_are_by_node}
use Rattle.strc_elab_stream.proofs.wiring_laws.loops_are_by_node.Goals as goal

pub returns : goal.returns
returns c = λ stream. loops_are_by_node stream 0
