use Rattle.std.proofs.Common.{◌∙◌, arith}
use Rattle.strc_sched_orders.proofs.Looking.{one_seen, all_seen}
use Rattle.strc_sched_orders.proofs.progress.Progress.look_at_all.Goals as goal

pub loop-node-preserved : goal.loop-node-preserved
loop-node-preserved c =
    let before = c.loop-node.invariant in
    let looks = c.in_ok-look_at.ensures in
    record {
      sound = looks.sound;
      complete = one_seen c.args.network.now c.loop-node.self c.look_at.new.self c.loop-node.node
          before.complete looks;
      counts = looks.counts ∙ before.counts;
      left = looks.left ∙ before.left;
    }

pub returns : goal.returns
returns c =
    let seen = c.loop-node.invariant in
    all_seen c.args.network.now c.args.self.now c.loop-node.self c.loop-node.node
    (omega (arith, c.loop-node-test.false, c.size-node-end.ensures.size)) seen.sound seen.complete
    seen.counts seen.left
