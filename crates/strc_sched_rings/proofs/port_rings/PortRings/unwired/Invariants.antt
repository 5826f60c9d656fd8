use Rattle.std.proofs.Common.{◌≡◌, map, take}
use Rattle.strc_sched_laws.specs.Wiring.{unwired}
use Rattle.strc_sched_rings.proofs.port_rings.PortRings.unwired.Given as goal

abbrev pub invariant-loop-count : goal.invariant-loop-count
invariant-loop-count l = map (λ v. v.items) l.rings.items ≡ unwired (take l.count-index l.counts)
