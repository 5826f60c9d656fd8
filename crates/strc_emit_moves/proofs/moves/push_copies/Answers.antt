use Rattle.strc_emit_moves.specs.Moves.{copy_text}
use Rattle.strc_emit_text.proofs.Pushing.{one_more_below}
use Rattle.strc_emit_moves.proofs.moves.push_copies.Goals as goal

pub loop-port-preserved : goal.loop-port-preserved
loop-port-preserved c =
    one_more_below (copy_text c.args.network.now c.args.phase c.args.node c.args.carried.now) c.loop-port.port _ _ _
    c.loop-port.invariant c.in_ok-push_copy.ensures
