use Rattle.strc_emit_program.specs.Orders.{part_call}
use Rattle.strc_emit_text.proofs.Pushing.{one_more_below}
use Rattle.strc_emit_program.proofs.orders.push_part_calls.Goals as goal

pub loop-part-preserved : goal.loop-part-preserved
loop-part-preserved c =
    one_more_below (part_call c.args.phase) c.loop-part.part _ _ _
    c.loop-part.invariant c.in_ok-push_part_call.ensures
