use Rattle.strc_emit_program.specs.Programs.{tape_at}
use Rattle.strc_emit_text.proofs.Pushing.{one_more_below}
use Rattle.strc_emit_program.proofs.program.push_tape_nodes.Goals as goal

pub loop-node-preserved : goal.loop-node-preserved
loop-node-preserved c =
    one_more_below (tape_at c.args.graph.now.nodes) c.loop-node.node _ _ _
    c.loop-node.invariant c.in_ok-push_tape_at.ensures
