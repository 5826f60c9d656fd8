use Rattle.strc_elab_dataflow.proofs.Ports.{ports_matter}
use Rattle.strc_elab_dataflow.proofs.only_ports_matter.Goals as goal

pub returns : goal.returns
returns g c = ports_matter
