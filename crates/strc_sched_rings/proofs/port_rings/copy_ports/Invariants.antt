use Rattle.std.proofs.Common.{◌≡◌, map, take}
use Rattle.std.specs.Vec.{vec_items}
use Rattle.strc_sched_rings.proofs.port_rings.copy_ports.Given as goal

abbrev pub invariant-loop-ports : goal.invariant-loop-ports
invariant-loop-ports l = map vec_items l.copy.items ≡ map vec_items (take l.ports-index l.rings)
