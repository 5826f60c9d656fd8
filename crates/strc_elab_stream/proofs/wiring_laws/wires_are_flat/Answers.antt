use Rattle.strc_elab_stream.proofs.Whole.{wires_are_flat}
use Rattle.strc_elab_stream.proofs.wiring_laws.wires_are_flat.Goals as goal

pub returns : goal.returns
returns c = wires_are_flat
