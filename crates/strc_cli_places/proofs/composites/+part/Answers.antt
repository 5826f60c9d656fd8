use Rattle.std.proofs.Common.{sym, ap, ◌∙◌}
use Rattle.strc_cli_places.specs.Streams.{part_in, part_in_block}
use Rattle.strc_cli_places.proofs.Adding.{part_in-Block}
use Rattle.strc_cli_places.proofs.composites.+part.Goals as goal

pub part_in-returns-in-Block : goal.part_in-returns-in-Block
part_in-returns-in-Block t c =
    let sought = c.args.part in
    c.part_in_block.ensures ∙ ap (part_in_block sought) c.deref-in-Block.ensures.value
    ∙ sym (part_in-Block sought c.in-Block.block) ∙ ap (part_in sought) (sym c.in-Block.is)
