use Rattle.std.proofs.Common.{take}
use Rattle.std.specs.Prelude.{All}
use Rattle.strc_sched_rings.specs.Circuits.{IsBetween}
use Rattle.strc_sched_rings.proofs.circuit.are_apart.Given as goal

abbrev pub invariant-loop-channel : goal.invariant-loop-channel
invariant-loop-channel l = All IsBetween (take l.channel-index l.channels)
