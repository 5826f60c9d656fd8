use Rattle.std.proofs.Common.{◌≡◌, ◌≤◌, ◌+◌, ◌*◌, max, drop, map}
use Rattle.strc_parse_tree.proofs.tree.Stmt.TheLaws.{the_size}
use Rattle.strc_parse_tree.specs.View.{block_view}
use Rattle.strc_rate_intervals.specs.Intervals.{names_of}
use Rattle.strc_rate_estimate.specs.Estimates.{block_estimate, sum}
use Rattle.strc_rate_estimate.specs.Tables.{helper_view}
use Rattle.strc_rate_estimate.specs.declared.sums.TheConstants.{ESTIMATE_LIMIT}
use Rattle.strc_rate_estimate.proofs.statements.+statement.Given as goal

abbrev pub decreases-statement_estimate : goal.decreases-statement_estimate
decreases-statement_estimate l = 2 * the_size l.statement.now

abbrev pub decreases-block_estimate : goal.decreases-block_estimate
decreases-block_estimate l = 2 * goal.size-block_estimate l + 1

abbrev pub decreases-branches_estimate : goal.decreases-branches_estimate
decreases-branches_estimate l = 2 * max (the_size l.chosen.now) (the_size l.other.now) + 1

abbrev pub decreases-turn_estimate : goal.decreases-turn_estimate
decreases-turn_estimate l = 2 * max (the_size l.step.now) (the_size l.body.now) + 1

abbrev pub invariant-block_estimate-loop-statement : goal.invariant-block_estimate-loop-statement
invariant-block_estimate-loop-statement l =
    (sum l.total (block_estimate (names_of l.fn.names) (map helper_view l.fn.helpers)
    (block_view (drop l.statement-index l.block)))
    ≡ sum 0 (block_estimate (names_of l.fn.names) (map helper_view l.fn.helpers)
    (block_view l.block))) × (l.total ≤ ESTIMATE_LIMIT)
