use Rattle.std.proofs.Common.{◌∙◌, ◌++◌, ap}
use Rattle.strc_emit_filter.specs.Variables.{field_text}
use Rattle.strc_emit_text.proofs.Pushing.{one_more_below}
use Rattle.strc_emit_filter.proofs.fields.push_fields.Goals as goal

pub loop-place-preserved : goal.loop-place-preserved
loop-place-preserved c =
    one_more_below (field_text c.args.function.now c.args.values.now) c.loop-place.place _ _ _
    c.loop-place.invariant
    (c.in_ok-push_field.ensures ∙ ap (λ slot. c.loop-place.text.items
    ++ field_text c.args.function.now c.args.values.now slot) c.in_ok-slot.ensures)
