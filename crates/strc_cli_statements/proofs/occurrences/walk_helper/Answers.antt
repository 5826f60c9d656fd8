use Rattle.std.proofs.Common.{◌++◌, None, sym, ap, ◌∙◌}
use Rattle.std.proofs.lemmas.Result.{on_ok_weaker}
use Rattle.strc_cli_statements.specs.OccurrencePlaces.{helper_places, block_places}
use Rattle.strc_cli_statements.proofs.Walks.{helper_places-Helper}
use Rattle.strc_cli_statements.proofs.occurrences.walk_helper.Goals as goal

pub returns-in-Helper-clause-marks : goal.returns-in-Helper-clause-marks
returns-in-Helper-clause-marks c =
    let looked = c.args.walk.now.sought in
    let same =
    ap (block_places looked None) c.deref.ensures.value
    ∙ sym (helper_places-Helper looked c.in-Helper.field-0 c.in-Helper.field-1
    c.in-Helper.field-2 c.in-Helper.body)
    ∙ ap (helper_places looked) (sym c.in-Helper.is) in
    on_ok_weaker c.walk_block.result
    (λ h. h ∙ ap (λ l. c.args.walk.now.found.items ++ l) same) c.walk_block.ensures.marks
