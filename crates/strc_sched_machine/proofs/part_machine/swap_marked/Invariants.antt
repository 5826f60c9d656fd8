use Rattle.std.proofs.Common.{◌≡◌, take}
use Rattle.strc_sched_machine.specs.Parts.{chosen}
use Rattle.strc_sched_machine.proofs.part_machine.swap_marked.Given as goal

abbrev pub invariant-loop-place : goal.invariant-loop-place
invariant-loop-place g l = record {
  one : l.one ≡ chosen (take l.place l.marks) l.fn.other l.fn.one;
  other : l.other ≡ chosen (take l.place l.marks) l.fn.one l.fn.other;
}
