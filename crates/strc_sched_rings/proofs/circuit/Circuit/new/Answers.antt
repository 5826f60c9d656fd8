use Rattle.strc_sched_rings.proofs.PartCircuits.{all_of_them}
use Rattle.strc_sched_rings.proofs.circuit.Circuit.new.Goals as goal

pub returns-clause-circuit : goal.returns-clause-circuit
returns-clause-circuit c = all_of_them c.args.graph.now c.nodes.result.now c.part.result
    c.nodes.ensures c.part.ensures.part
