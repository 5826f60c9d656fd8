use Rattle.strc_sched_rings.proofs.Ports.{CopiesOut}
use Rattle.strc_sched_rings.proofs.movers.copy_out.Given as goal

abbrev pub invariant-loop-port : goal.invariant-loop-port
invariant-loop-port l = CopiesOut l.carried l.outputs l.items l.port l.fn.rings l.rings
