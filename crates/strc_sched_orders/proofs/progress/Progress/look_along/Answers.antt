use Rattle.std.proofs.Common.{◌∙◌, arith}
use Rattle.strc_sched_orders.proofs.Looking.{looked_along, all_along}
use Rattle.strc_sched_orders.proofs.progress.Progress.look_along.Goals as goal

pub loop-number-preserved : goal.loop-number-preserved
loop-number-preserved c =
    let looks = c.in_ok-look_at.ensures in
    let before = c.loop-number.invariant in
    record {
      sound = looks.sound;
      complete = looked_along c.args.network.now c.channel.ensures.network c.loop-number.self
          c.look_at.new.self c.args.numbers.now c.loop-number.number-index c.loop-number-test.true
          c.channel.result.now c.channel.ensures.rates looks.counts looks.left looks.kept
          looks.known before.complete;
      counts = looks.counts ∙ before.counts;
      left = looks.left ∙ before.left;
    }

pub returns : goal.returns
returns c =
    let seen = c.loop-number.invariant in
    all_along c.args.network.now c.args.self.now c.loop-number.self c.args.numbers.now
    c.loop-number.number-index (omega (arith, c.loop-number-test.false)) seen.sound seen.complete
    seen.counts seen.left
