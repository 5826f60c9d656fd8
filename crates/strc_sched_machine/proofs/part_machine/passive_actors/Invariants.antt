use Rattle.std.proofs.Common.{◌≡◌, replicate}
use Rattle.strc_sched_machine.specs.declared.actor.Actor.TheVariants as actor
use Rattle.strc_sched_machine.proofs.part_machine.passive_actors.Given as goal

abbrev pub invariant-loop-node : goal.invariant-loop-node
invariant-loop-node l = l.actors.items ≡ replicate l._node actor.Passive
