use Rattle.strc_elab_dataflow.proofs.Ports.{ports_matter}
use Rattle.strc_elab_graph.specs.Meaning.{node_meaning}
use Rattle.strc_elab_graph.proofs.Idle.{same_or_idle}
use Rattle.strc_elab_graph.proofs.laws.only_carriers_matter.Goals as goal

pub returns : goal.returns
returns c = λ a b codes sources inputs. ports_matter node_meaning a b codes
    (λ node port less. same_or_idle (a.code node) port (a.source node) (b.source node) less
    (sources node port) (inputs node))
