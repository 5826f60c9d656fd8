use Rattle.std.proofs.Common.{◌≡◌, map, take}
use Rattle.strc_sched_machine.specs.Parts.{ends_within}
use Rattle.strc_sched_machine.proofs.part_machine.channels_within.Given as goal

abbrev pub invariant-loop-channel : goal.invariant-loop-channel
invariant-loop-channel l =
    l.marks.items ≡ map (ends_within l.first l.next) (take l.channel-index l.channels)
