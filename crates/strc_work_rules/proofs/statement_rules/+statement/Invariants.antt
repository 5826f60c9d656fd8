use Rattle.std.proofs.Common.{◌≡◌, ◌+◌, ◌*◌, max, drop}
use Rattle.strc_parse_tree.proofs.tree.Stmt.TheLaws.{the_size}
use Rattle.strc_parse_tree.specs.View.{block_view}
use Rattle.strc_work_rules.specs.Resolution.{stmts_resolved}
use Rattle.strc_work_rules.specs.Verdicts.{context_of}
use Rattle.strc_work_rules.specs.RefusedPlaces.{block_place}
use Rattle.strc_work_rules.proofs.TypedGrowth.{StandsOn}
use Rattle.strc_work_rules.proofs.Resolved.{block_after}
use Rattle.strc_work_rules.proofs.statement_rules.+statement.Given as goal

abbrev pub decreases-resolve_block : goal.decreases-resolve_block
decreases-resolve_block l = 3 * goal.size-resolve_block l + 3

abbrev pub decreases-resolve_stmt : goal.decreases-resolve_stmt
decreases-resolve_stmt l = 3 * the_size l.statement.now + 1

abbrev pub decreases-resolve_inside : goal.decreases-resolve_inside
decreases-resolve_inside l = 3 * the_size l.statement.now + 2

abbrev pub decreases-resolve_if : goal.decreases-resolve_if
decreases-resolve_if l = 3 * the_size l.chosen.now + 3

abbrev pub decreases-resolve_if_else : goal.decreases-resolve_if_else
decreases-resolve_if_else l = 3 * max (the_size l.chosen.now) (the_size l.other.now) + 3

abbrev pub decreases-resolve_while : goal.decreases-resolve_while
decreases-resolve_while l = 3 * the_size l.body.now + 3

abbrev pub decreases-resolve_for : goal.decreases-resolve_for
decreases-resolve_for l = 3 * max (the_size l.first.now)
    (max (the_size l.step.now) (the_size l.body.now)) + 3

abbrev pub invariant-resolve_block-loop-inner : goal.invariant-resolve_block-loop-inner
invariant-resolve_block-loop-inner l = record {
  left : block_after l.resolved.items (stmts_resolved (context_of l.context) l.names l.start
      (block_view (drop l.inner-index l.block)))
      ≡ stmts_resolved (context_of l.context) l.initial.names l.start (block_view l.block);
  names : StandsOn l.initial.names l.names;
  here : l.here ≡ l.initial.here;
  place : block_place (context_of l.context) l.names l.start l.initial.here
      (drop l.inner-index l.block)
      ≡ block_place (context_of l.context) l.initial.names l.start l.initial.here l.block;
}
