use Rattle.std.proofs.Common.{take}
use Rattle.strc_sched_machine.proofs.Starting.{AreStarted}
use Rattle.strc_sched_machine.proofs.actor.start_actors.Given as goal

abbrev pub invariant-loop-node : goal.invariant-loop-node
invariant-loop-node l = AreStarted (take l.node-index l.nodes) l.actors.items
