use Rattle.std.proofs.Common.{refl}
use Rattle.strc_cli_output.proofs.PlanLines.{one_start_more}
use Rattle.strc_cli_output.proofs.output.push_starts.Goals as goal

pub loop-node-preserved : goal.loop-node-preserved
loop-node-preserved c =
    one_start_more c.loop-node.node c.args.counts.now _ _ _ _ c.loop-node-test.true refl
    c.in_ok-push_start.ensures c.loop-node.invariant
