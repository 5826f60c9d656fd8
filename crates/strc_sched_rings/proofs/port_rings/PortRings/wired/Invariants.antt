use Rattle.strc_sched_rings.proofs.Wirings.{Wires}
use Rattle.strc_sched_rings.proofs.port_rings.PortRings.wired.Given as goal

abbrev pub invariant-loop-number : goal.invariant-loop-number
invariant-loop-number l = Wires l.counts l.ends l.number l.rings
