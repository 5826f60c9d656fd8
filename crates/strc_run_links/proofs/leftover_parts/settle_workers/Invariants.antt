use Rattle.std.proofs.Common.{◌≡◌, List, length}
use Rattle.std.specs.Vec.Iter.{into_iter_items, into_iter_len}
use Rattle.strc_stage_core.specs.Moves.{queues}
use Rattle.strc_run_links.specs.Ends.{sent_by}
use Rattle.strc_run_links.specs.Seats.{Settling}
use Rattle.strc_run_links.specs.States.{AreParts, Part}
use Rattle.strc_run_links.proofs.leftover_parts.settle_workers.Given as goal

abbrev pub invariant-loop-worker : goal.invariant-loop-worker
invariant-loop-worker g l = (chain : List (Part g.row.S.Denot))
    × AreParts chain l.parts.stages.items (queues l.parts.links.items) l.parts.held.items
    × Settling g.S.Actor.does l.fn.start.value.stages.items chain (sent_by l.fn.first) l.before
    (into_iter_items l.worker-iterator) l.fn.last
    × (l.parts.collector ≡ l.fn.collector)
    × (into_iter_len l.worker-iterator ≡ length (into_iter_items l.worker-iterator))
