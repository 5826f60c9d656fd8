use Rattle.std.proofs.Common.{arith}
use Rattle.strc_cli_output.proofs.NodeWorks.{one_work_more}
use Rattle.strc_cli_output.proofs.works.round_works.Goals as goal

pub loop-node-preserved : goal.loop-node-preserved
loop-node-preserved c =
    one_work_more c.loop-node.node c.args.firings.now c.args.counts.now c.loop-node.works.items
    c.push.new.self.items _ c.work_in_round.result
    (omega (arith, c.loop-node-test.true, c.requires)) c.loop-node-test.true
    c.work_in_round.ensures c.in_ok-push.ensures.items c.loop-node.invariant
