use Rattle.std.proofs.Common.{take}
use Rattle.strc_balance.specs.Frontiers.{Adds}
use Rattle.strc_balance.proofs.propagation.add_all.Given as goal

abbrev pub invariant-loop-channel : goal.invariant-loop-channel
invariant-loop-channel l = Adds (take l.channel-index l.channels) l.initial.frontier l.frontier
