use Rattle.std.proofs.Common.{◌≡◌, [], replicate}
use Rattle.strc_stage_core.specs.Moves.{queues}
use Rattle.strc_stage_steps.proofs.empty_ring.links_before.Given as goal

abbrev pub invariant-loop : goal.invariant-loop
invariant-loop l = queues l.links.items ≡ replicate l.counter []
