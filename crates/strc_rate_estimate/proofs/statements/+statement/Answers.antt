use Rattle.std.proofs.Common.{map, sym, ap, ◌∙◌}
use Rattle.strc_parse_tree.specs.View.{stmt_view, block_view}
use Rattle.strc_parse_tree.proofs.Blocks.{stmt_view-Block}
use Rattle.strc_rate_intervals.specs.Intervals.{names_of}
use Rattle.strc_rate_estimate.specs.Estimates.{block_estimate, stmt_estimate}
use Rattle.strc_rate_estimate.specs.Tables.{helper_view}
use Rattle.strc_rate_estimate.proofs.statements.+statement.Goals as goal

pub statement_estimate-returns-in-Block : goal.statement_estimate-returns-in-Block
statement_estimate-returns-in-Block t c =
    let locals = names_of c.args.names.now in
    let helpers = map helper_view c.args.helpers.now in
    c.block_estimate.ensures
    ∙ ap (λ items. block_estimate locals helpers (block_view items)) c.deref.ensures.value
    ∙ ap (stmt_estimate locals helpers) (sym (stmt_view-Block c.in-Block.body))
    ∙ ap (λ s. stmt_estimate locals helpers (stmt_view s)) (sym c.in-Block.is)
