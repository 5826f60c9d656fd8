use Rattle.strc_emit_program.specs.Orders.{call_at}
use Rattle.strc_emit_text.proofs.Pushing.{one_more_below}
use Rattle.strc_emit_program.proofs.orders.push_calls.Goals as goal

pub loop-place-preserved : goal.loop-place-preserved
loop-place-preserved c =
    one_more_below (call_at c.args.phase c.args.calls.now c.args.part) c.loop-place.place _ _ _
    c.loop-place.invariant c.in_ok-push_call_at.ensures
