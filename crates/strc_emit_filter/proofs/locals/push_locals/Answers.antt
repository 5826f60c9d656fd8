use Rattle.std.proofs.Common.{◌∙◌, ◌++◌, ap}
use Rattle.strc_emit_filter.specs.Variables.{local_text}
use Rattle.strc_emit_text.proofs.Pushing.{one_more_below}
use Rattle.strc_emit_filter.proofs.locals.push_locals.Goals as goal

pub loop-place-preserved : goal.loop-place-preserved
loop-place-preserved c =
    one_more_below (local_text c.args.function.now) c.loop-place.place _ _ _
    c.loop-place.invariant
    (c.in_ok-push_local.ensures ∙ ap (λ slot. c.loop-place.text.items
    ++ local_text c.args.function.now slot) c.in_ok-slot.ensures)
