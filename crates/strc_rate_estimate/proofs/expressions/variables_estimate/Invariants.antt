use Rattle.std.proofs.Common.{◌≡◌, ◌≤◌, drop, map}
use Rattle.strc_parse_tree.specs.View.{variable_view}
use Rattle.strc_rate_estimate.specs.Estimates.{variables_estimate, sum}
use Rattle.strc_rate_estimate.specs.Tables.{helper_view}
use Rattle.strc_rate_estimate.specs.declared.sums.TheConstants.{ESTIMATE_LIMIT}
use Rattle.strc_rate_estimate.proofs.expressions.variables_estimate.Given as goal

abbrev pub invariant-loop-variable : goal.invariant-loop-variable
invariant-loop-variable l =
    (sum l.total (variables_estimate (map helper_view l.fn.helpers)
    (map variable_view (drop l.variable-index l.variables)))
    ≡ sum 0 (variables_estimate (map helper_view l.fn.helpers)
    (map variable_view l.variables))) × (l.total ≤ ESTIMATE_LIMIT)
