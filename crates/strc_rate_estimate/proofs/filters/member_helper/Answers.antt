use Rattle.std.proofs.Common.{[], sym, ap, ◌∙◌, Some}
use Rattle.strc_parse_tree.specs.View.{block_view, member_view}
use Rattle.strc_parse_tree.proofs.Blocks.{member_view-Helper}
use Rattle.strc_rate_intervals.specs.Intervals.{names_of}
use Rattle.strc_rate_estimate.specs.Estimates.{block_estimate}
use Rattle.strc_rate_estimate.specs.Filters.{member_helper}
use Rattle.strc_rate_estimate.proofs.filters.member_helper.Goals as goal

pub returns-in-Helper : goal.returns-in-Helper
returns-in-Helper c =
    let locals = names_of c.args.names.now in
    ap (λ n. Some (c.in-Helper.name, n)) (c.block_estimate.ensures
    ∙ ap (λ items. block_estimate locals [] (block_view items)) c.deref.ensures.value)
    ∙ ap (member_helper locals) (sym (member_view-Helper c.in-Helper.field-0 c.in-Helper.name
    c.in-Helper.field-2 c.in-Helper.block))
    ∙ ap (λ m. member_helper locals (member_view m)) (sym c.in-Helper.is)
