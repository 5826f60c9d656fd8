use Rattle.strc_elab_stream.proofs.Paths.{wires_connect}
use Rattle.strc_elab_stream.proofs.wiring_laws.wires_connect.Goals as goal

pub returns : goal.returns
returns c = wires_connect
