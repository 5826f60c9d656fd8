use Rattle.std.proofs.Common.{◌++◌, None, sym, ap, ◌∙◌}
use Rattle.std.proofs.lemmas.Result.{on_ok_weaker}
use Rattle.strc_cli_statements.specs.OccurrencePlaces.{member_places, block_places}
use Rattle.strc_cli_statements.proofs.Walks.{member_places-Init}
use Rattle.strc_cli_statements.proofs.occurrences.walk_member.Goals as goal

pub returns-in-Init-clause-marks : goal.returns-in-Init-clause-marks
returns-in-Init-clause-marks c =
    let looked = c.args.walk.now.sought in
    let same =
    ap (block_places looked None) c.deref-in-Init.ensures.value
    ∙ sym (member_places-Init looked c.in-Init.block)
    ∙ ap (member_places looked) (sym c.in-Init.is) in
    on_ok_weaker c.walk_block.result
    (λ h. h ∙ ap (λ l. c.args.walk.now.found.items ++ l) same) c.walk_block.ensures.marks
