use Rattle.std.proofs.Common.{sym, ap, ◌∙◌}
use Rattle.strc_cli_places.specs.Streams.{child_in, child_in_block, child_below}
use Rattle.strc_cli_places.proofs.Adding.{child_in-Block, child_below-Composite}
use Rattle.strc_cli_places.proofs.composites.+child.Goals as goal

pub child_in-returns-in-Block : goal.child_in-returns-in-Block
child_in-returns-in-Block t c =
    let at = c.args.at in
    c.child_in_block.ensures ∙ ap (child_in_block at) c.deref-in-Block.ensures.value
    ∙ sym (child_in-Block at c.in-Block.block) ∙ ap (child_in at) (sym c.in-Block.is)

pub child_below-returns-in-Composite : goal.child_below-returns-in-Composite
child_below-returns-in-Composite t c =
    let at = c.args.at in
    c.child_in_block.ensures ∙ ap (child_in_block at) c.deref.ensures.value
    ∙ sym (child_below-Composite at c.in-Composite.field-0 c.in-Composite.field-1
    c.in-Composite.block) ∙ ap (child_below at) (sym c.in-Composite.is)
