use Rattle.strc_sched_laws.proofs.NodeSteps.{node_matches}
use Rattle.strc_sched_laws.proofs.nodes_step_alike.Goals as goal

pub returns : goal.returns
returns c = λ code firing fields input inputs outputs rings queue placed shows reads own.
    node_matches inputs outputs rings placed queue code firing fields input shows reads own
