use Rattle.std.proofs.Common.{◌≡◌, [], replicate}
use Rattle.strc_sched_machine.specs.Running.{words_of}
use Rattle.strc_sched_machine.proofs.machine.no_words.Given as goal

-- no words of the nodes so far
abbrev pub invariant-loop-node : goal.invariant-loop-node
invariant-loop-node l = words_of l.words.items ≡ replicate l._node []
