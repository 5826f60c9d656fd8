use Rattle.strc_elab_stream.proofs.Nodes.{nodes_are_codes}
use Rattle.strc_elab_stream.proofs.wiring_laws.nodes_are_codes.Goals as goal

pub returns : goal.returns
returns c = nodes_are_codes
