use Rattle.std.proofs.Common.{map, sym, ap, ◌∙◌, Some}
use Rattle.strc_parse_tree.specs.View.{block_view, member_view}
use Rattle.strc_parse_tree.proofs.Blocks.{member_view-Work}
use Rattle.strc_rate_intervals.specs.Intervals.{names_of}
use Rattle.strc_rate_estimate.specs.Estimates.{block_estimate}
use Rattle.strc_rate_estimate.specs.Filters.{member_work}
use Rattle.strc_rate_estimate.specs.Tables.{helper_view}
use Rattle.strc_rate_estimate.proofs.filters.member_work.Goals as goal

pub returns-in-Work : goal.returns-in-Work
returns-in-Work c =
    let locals = names_of c.args.names.now in
    let helpers = map helper_view c.args.helpers.now in
    ap Some (c.block_estimate.ensures
    ∙ ap (λ items. block_estimate locals helpers (block_view items)) c.deref.ensures.value)
    ∙ ap (member_work locals helpers) (sym (member_view-Work c.in-Work.field-0 c.in-Work.block))
    ∙ ap (λ m. member_work locals helpers (member_view m)) (sym c.in-Work.is)
