use Rattle.strc_emit_program.specs.Programs.{IsNumbered}
use Rattle.strc_emit_program.proofs.Numbering.{one_text_more}
use Rattle.strc_emit_program.proofs.nodes.push_nodes.Goals as goal

pub loop-node-preserved : goal.loop-node-preserved
loop-node-preserved c =
    one_text_more (IsNumbered c.args.network.now) c.loop-node.node _ _ _ c.loop-node.invariant
    c.in_ok-push_numbered.ensures
