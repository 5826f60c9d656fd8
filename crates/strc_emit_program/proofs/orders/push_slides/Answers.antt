use Rattle.strc_emit_program.specs.Orders.{slide_text}
use Rattle.strc_emit_text.proofs.Pushing.{one_more_below}
use Rattle.strc_emit_program.proofs.orders.push_slides.Goals as goal

pub loop-channel-preserved : goal.loop-channel-preserved
loop-channel-preserved c =
    one_more_below (slide_text c.args.network.now c.args.phase) c.loop-channel.channel _ _ _
    c.loop-channel.invariant c.in_ok-push_slide.ensures
