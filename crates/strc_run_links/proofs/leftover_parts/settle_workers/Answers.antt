use Rattle.std.proofs.Common.{◌∷◌, ◌++◌, [], rules, refl}
use Rattle.std.specs.Vec.Iter.{into_iter_items}
use Rattle.strc_stage_core.specs.Moves.{queues}
use Rattle.strc_run_links.specs.Ends.{sent_by}
use Rattle.strc_run_links.specs.States.{Part}
use Rattle.strc_run_links.proofs.Iterating.{one_less, none}
use Rattle.strc_run_links.proofs.Chains.{begins, link_there, more_parts, next_settling}
use Rattle.strc_run_links.proofs.Chains.{pushed_queue, settled}
use Rattle.strc_run_links.proofs.leftover_parts.settle_workers.Goals as goal

pub loop-worker-init : goal.loop-worker-init
loop-worker-init g c =
    let does = g.S.Actor.does in
    let stages = c.args.start.value.stages.items in
    let last = c.args.last.now in (
      [],
      search rules,
      begins does stages c.args.first last [] (into_iter_items c.into_iter-worker-iterator.result)
          c.args.workers.items refl c.into_iter-worker-iterator.ensures.into_iter_gives.0
          c.requires,
      refl,
      search rules,
    )

pub close-requires : goal.close-requires
close-requires g c =
    let so = c.loop-worker.invariant in
    link_there g.S.Actor.does c.args.start.value.stages.items so.0 (sent_by c.args.first)
    c.loop-worker.before c.args.last.now c.in-Some.worker (into_iter_items c.next.new.self)
    (into_iter_items c.loop-worker.worker-iterator) c.in-Some.ensures.steps.0 so.2

pub loop-worker-preserved : goal.loop-worker-preserved
loop-worker-preserved g c =
    let does = g.S.Actor.does in
    let stages = c.args.start.value.stages.items in
    let so = c.loop-worker.invariant in
    let parts = c.loop-worker.parts in
    let w = c.in-Some.worker in
    let queue = c.in_ok-queue.queue in
    let p : Part g.row.S.Denot =
    record { stage = w.actor; queue = queue.items; held = c.in_ok-queue.held } in (
      so.0 ++ p ∷ [],
      more_parts so.0 p parts.stages.items c.push.new.self.items (queues parts.links.items)
          (queues c.push-in-loop-worker.new.self.items) parts.held.items
          c.push-in-loop-worker-2.new.self.items so.1
          c.in_ok-push.ensures.items
          (pushed_queue parts.links.items c.push-in-loop-worker.new.self.items queue
          c.in_ok-push-2.ensures.items)
          c.in_ok-push-3.ensures.items,
      next_settling does stages so.0 (sent_by c.args.first) c.loop-worker.before
          c.args.last.now w (into_iter_items c.next.new.self)
          (into_iter_items c.loop-worker.worker-iterator) p c.in_ok-left.left.items
          (so.0 ++ p ∷ []) refl c.in-Some.ensures.steps.0 so.2 c.in_ok-left.ensures.left
          c.in_ok-queue.ensures.queue c.in_ok-queue.ensures.held refl,
      so.3,
      one_less w (into_iter_items c.next.new.self) (into_iter_items c.loop-worker.worker-iterator)
          _ _ c.in-Some.ensures.steps.0 c.in-Some.ensures.steps.1 so.4,
    )

pub returns : goal.returns
returns g c =
    let so = c.loop-worker.invariant in
    let end = settled g.S.Actor.does c.args.start.value.stages.items so.0 (sent_by c.args.first)
    c.loop-worker.before c.args.last.now (into_iter_items c.loop-worker.worker-iterator)
    (none (into_iter_items c.loop-worker.worker-iterator) _ c.in-None.ensures.steps.0 so.4) so.2 in
    record {
      settled = (record { chain = so.0; are_parts = so.1; chained = end.0 }, end.1);
      collector = so.3;
    }
