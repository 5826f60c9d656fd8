use Rattle.strc_sched_rings.proofs.Ports.{DealsOut}
use Rattle.strc_sched_rings.proofs.movers.fire_roundrobin.Given as goal

abbrev pub invariant-loop-port : goal.invariant-loop-port
invariant-loop-port l = DealsOut l.weights l.input l.outputs l.port l.fn.rings l.rings
