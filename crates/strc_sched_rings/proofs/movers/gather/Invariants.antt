use Rattle.strc_sched_rings.proofs.Ports.{GathersIn}
use Rattle.strc_sched_rings.proofs.movers.gather.Given as goal

abbrev pub invariant-loop-port : goal.invariant-loop-port
invariant-loop-port l = GathersIn l.weights l.inputs l.output l.port l.fn.rings l.rings
