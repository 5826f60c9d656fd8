use Rattle.strc_cli_pictures.specs.Lists.{nodes_of}
use Rattle.strc_cli_pictures.proofs.StageBoxes.{first_node}
use Rattle.strc_cli_output.proofs.Texts.{piece_more}
use Rattle.strc_cli_pictures.proofs.stages.push_nodes.Goals as goal

pub loop-node-preserved : goal.loop-node-preserved
loop-node-preserved c =
    piece_more _ _ _ _ _ _ c.in_ok-push_node.ensures
    (first_node (nodes_of c.args.counted) c.loop-node.node c.args.end c.loop-node-test.true)
    c.loop-node.invariant
