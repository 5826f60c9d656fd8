use Rattle.std.proofs.Common.{◌≡◌, ◌+◌, ◌*◌, ◌++◌, max, Some, drop}
use Rattle.strc_parse_tree.proofs.tree.Stmt.TheLaws.{the_size}
use Rattle.strc_parse_tree.specs.View.{block_view}
use Rattle.strc_rate.specs.Counts.{no_items, sequence, stmts_counts}
use Rattle.strc_rate_intervals.specs.Intervals.{names_of}
use Rattle.strc_rate.specs.Peeks.{stmts_sites}
use Rattle.strc_rate_intervals.proofs.IntervalGrowth.{IsBaseOf}
use Rattle.strc_rate.proofs.peeks.+statement.Given as goal

abbrev pub decreases-check_peeks_in_statement : goal.decreases-check_peeks_in_statement
decreases-check_peeks_in_statement l = 6 * the_size l.statement.now

abbrev pub decreases-check_peeks_in_block : goal.decreases-check_peeks_in_block
decreases-check_peeks_in_block l = 6 * goal.size-check_peeks_in_block l + 1

abbrev pub decreases-look_inside : goal.decreases-look_inside
decreases-look_inside l = 6 * the_size l.statement.now + 1

abbrev pub decreases-check_peeks_in_branches : goal.decreases-check_peeks_in_branches
decreases-check_peeks_in_branches l = 6 * max (the_size l.chosen.now) (the_size l.other.now) + 2

abbrev pub decreases-check_peeks_in_if_else : goal.decreases-check_peeks_in_if_else
decreases-check_peeks_in_if_else l = 6 * max (the_size l.chosen.now) (the_size l.other.now) + 3

abbrev pub decreases-check_peeks_in_if : goal.decreases-check_peeks_in_if
decreases-check_peeks_in_if l = 6 * the_size l.chosen.now + 3

abbrev pub decreases-check_peeks_in_branch : goal.decreases-check_peeks_in_branch
decreases-check_peeks_in_branch l = 6 * the_size l.chosen.now + 2

abbrev pub decreases-check_peeks_in_while : goal.decreases-check_peeks_in_while
decreases-check_peeks_in_while l = 6 * the_size l.body.now + 2

abbrev pub decreases-check_peeks_in_turn : goal.decreases-check_peeks_in_turn
decreases-check_peeks_in_turn l = 6 * the_size l.body.now + 2

abbrev pub decreases-check_peeks_in_counted_turns : goal.decreases-check_peeks_in_counted_turns
decreases-check_peeks_in_counted_turns l = 6 * the_size l.body.now + 3

abbrev pub decreases-check_peeks_in_unknown_turns : goal.decreases-check_peeks_in_unknown_turns
decreases-check_peeks_in_unknown_turns l = 6 * max (the_size l.step.now) (the_size l.body.now) + 2

abbrev pub decreases-check_peeks_in_turns : goal.decreases-check_peeks_in_turns
decreases-check_peeks_in_turns l = 6 * max (the_size l.step.now) (the_size l.body.now) + 4

abbrev pub decreases-check_peeks_in_for : goal.decreases-check_peeks_in_for
decreases-check_peeks_in_for l =
    6 * max (the_size l.first.now) (max (the_size l.step.now) (the_size l.body.now)) + 5

abbrev pub invariant-check_peeks_in_block-loop-statement :
    goal.invariant-check_peeks_in_block-loop-statement
invariant-check_peeks_in_block-loop-statement l = record {
  counted : sequence l.counts (stmts_counts (names_of l.names)
      (block_view (drop l.statement-index l.block)))
      ≡ stmts_counts (names_of l.initial.names) (block_view l.block);
  runnable : sequence l.counts (Some no_items) ≡ l.counts;
  reported : l.sites.items ++ stmts_sites l.names l.here
      (block_view (drop l.statement-index l.block)) ≡ l.initial.sites.items
      ++ stmts_sites l.initial.names l.fn.popped (block_view l.block);
  names : IsBaseOf l.initial.names l.names;
}
