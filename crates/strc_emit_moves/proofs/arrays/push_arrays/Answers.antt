use Rattle.strc_emit_moves.specs.Rooms.{array_text}
use Rattle.strc_emit_text.proofs.Pushing.{one_more_below}
use Rattle.strc_emit_moves.proofs.arrays.push_arrays.Goals as goal

pub loop-channel-preserved : goal.loop-channel-preserved
loop-channel-preserved c =
    one_more_below (array_text c.args.network.now) c.loop-channel.channel _ _ _
    c.loop-channel.invariant c.in_ok-push_array.ensures
