use Rattle.strc_cli_source.proofs.NamedNodes.{adds_after, adds_same, adds_these}
use Rattle.strc_cli_source.proofs.stuck.push_loop.Goals as goal
use Rattle.strc_cli_source.proofs.stuck.push_loop.Goals.{else-node-joiner}
use Rattle.strc_cli_source.proofs.stuck.push_loop.Goals.{then-node-joiner+then-eq+then-count-lt-NAMED+in_ok-add-2+in_ok-push_node-2}

pub loop-node-init : goal.loop-node-init
loop-node-init c =
    adds_after _ _ _ _ (adds_these _ _ _ c.in_ok-add.ensures) c.in_ok-push_node.ensures

pub loop-node-preserved : goal.loop-node-preserved
loop-node-preserved c =
    elim c.if-node-joiner.branch [
      | then-node-joiner+then-eq+then-count-lt-NAMED+in_ok-add-2+in_ok-push_node-2 w ↦
          adds_same _ _ _
          (adds_after _ _ _ _ (adds_after _ _ _ _ c.loop-node.invariant w.in_ok-add-2.ensures)
          w.in_ok-push_node-2.ensures) w.message-is
      | else-node-joiner w ↦ adds_same _ _ _ c.loop-node.invariant w.message-is
    ]
