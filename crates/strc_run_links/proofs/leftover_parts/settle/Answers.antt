use Rattle.std.proofs.Common.{◌∙◌, ap, refl}
use Rattle.strc_stage_core.specs.Moves.{queues}
use Rattle.strc_run_links.specs.States.{turned}
use Rattle.strc_run_links.proofs.Chains.{pushed_queue, ring, turned_queues}
use Rattle.strc_run_links.proofs.leftover_parts.settle.Goals as goal

pub returns : goal.returns
returns g c =
    let parts = c.in_ok-parts.parts in
    let queue = c.in_ok-queue.queue in
    ring g.S.Actor.does g.C.Actor.does c.args.start.value parts _ c.args.ended.collected
    c.in_ok-parts.tx c.in_ok-left.left.items queue.items c.in_ok-queue.held c.requires.1
    c.in_ok-parts.ensures.settled.0 c.in_ok-left.ensures.left c.in_ok-queue.ensures.queue
    c.in_ok-queue.ensures.held c.in_ok-parts.ensures.collector refl
    (ap queues c.rotate_left.ensures.items ∙ turned_queues c.push.new.self.items
    ∙ ap turned (pushed_queue parts.links.items c.push.new.self.items queue
    c.in_ok-push.ensures.items))
    c.in_ok-push-2.ensures.items
