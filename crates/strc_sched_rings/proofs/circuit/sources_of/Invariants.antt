use Rattle.std.proofs.Common.{◌≡◌, map, take}
use Rattle.strc_sched_rings.specs.Circuits.{source_of}
use Rattle.strc_sched_rings.proofs.circuit.sources_of.Given as goal

abbrev pub invariant-loop-channel : goal.invariant-loop-channel
invariant-loop-channel l = l.ends.items ≡ map source_of (take l.channel-index l.channels)
