use Rattle.std.proofs.Common.{◌++◌, map, sym, ap, ◌∙◌}
use Rattle.std.proofs.lemmas.Result.{on_ok_weaker}
use Rattle.strc_cli_places.specs.Additions.{addition_view}
use Rattle.strc_cli_places.specs.Streams.{additions_in, additions_in_block, additions_below}
use Rattle.strc_cli_places.proofs.Adding.{additions_in-Block, additions_below-Composite}
use Rattle.strc_cli_places.proofs.recursion.+additions.Goals as goal

pub add_statement-returns-in-Block : goal.add_statement-returns-in-Block
add_statement-returns-in-Block t c =
    let here = c.args.here in
    let same = ap additions_in_block c.deref-in-Block.ensures.value
    ∙ sym (additions_in-Block here c.in-Block.block)
    ∙ ap (additions_in here) (sym c.in-Block.is) in
    on_ok_weaker c.add_block.result
    (λ h. h ∙ ap (λ l. map addition_view c.args.additions.now.items ++ l) same)
    c.add_block.ensures

pub add_child-returns-in-Composite : goal.add_child-returns-in-Composite
add_child-returns-in-Composite t c =
    let here = c.args.here in
    let same =
    ap additions_in_block c.deref.ensures.value
    ∙ sym (additions_below-Composite here c.in-Composite.field-0 c.in-Composite.field-1
    c.in-Composite.block) ∙ ap (additions_below here) (sym c.in-Composite.is) in
    on_ok_weaker c.add_block.result
    (λ h. h ∙ ap (λ l. map addition_view c.args.additions.now.items ++ l) same)
    c.add_block.ensures
