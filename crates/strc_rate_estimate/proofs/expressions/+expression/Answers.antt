use Rattle.std.proofs.Common.{map, sym, ap, ◌∙◌}
use Rattle.strc_parse_tree.specs.View.{expr_view, listed_view}
use Rattle.strc_parse_tree.proofs.Calls.{expr_view-Call}
use Rattle.strc_rate_estimate.specs.Estimates.{arguments_estimate, call_estimate, expr_estimate}
use Rattle.strc_rate_estimate.specs.Estimates.{sum}
use Rattle.strc_rate_estimate.specs.Tables.{helper_view}
use Rattle.strc_rate_estimate.proofs.expressions.+expression.Goals as goal

pub expression_estimate-returns-in-Call : goal.expression_estimate-returns-in-Call
expression_estimate-returns-in-Call t c =
    let helpers = map helper_view c.args.helpers.now in
    let given = c.arguments_estimate.ensures
    ∙ ap (λ items. arguments_estimate helpers (listed_view items)) c.deref.ensures.value in
    c.sum.ensures
    ∙ ap (λ n. sum n c.arguments_estimate.result) c.call_estimate.ensures
    ∙ ap (sum (call_estimate helpers c.in-Call.name)) given
    ∙ ap (expr_estimate helpers) (sym (expr_view-Call c.in-Call.name c.in-Call.arguments))
    ∙ ap (λ e. expr_estimate helpers (expr_view e)) (sym c.in-Call.is)
