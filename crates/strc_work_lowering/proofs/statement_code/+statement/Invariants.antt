use Rattle.std.proofs.Common.{◌≡◌, ◌+◌, ◌*◌, max, false, drop}
use Rattle.strc_parse_tree.proofs.tree.Stmt.TheLaws.{the_size}
use Rattle.strc_parse_tree.specs.View.{block_view}
use Rattle.strc_work_code.specs.Nodes.{before}
use Rattle.strc_work_code.specs.Lowering.{stmts_nodes}
use Rattle.strc_work_lowering.specs.Written.{written}
use Rattle.strc_work_meaning.proofs.Growth.{IsBaseOf}
use Rattle.strc_work_lowering.proofs.statement_code.+statement.Given as goal

abbrev pub decreases-emit_stmt : goal.decreases-emit_stmt
decreases-emit_stmt l = 5 * the_size l.statement.now

abbrev pub decreases-emit_after : goal.decreases-emit_after
decreases-emit_after l = 5 * the_size l.statement.now + 1

abbrev pub decreases-emit_step : goal.decreases-emit_step
decreases-emit_step l = 5 * the_size l.step.now + 2

abbrev pub decreases-emit_block : goal.decreases-emit_block
decreases-emit_block l = 5 * goal.size-emit_block l + 2

abbrev pub decreases-emit_inside : goal.decreases-emit_inside
decreases-emit_inside l = 5 * the_size l.statement.now + 1

abbrev pub decreases-emit_apart : goal.decreases-emit_apart
decreases-emit_apart l = 5 * the_size l.statement.now + 2

abbrev pub decreases-emit_for : goal.decreases-emit_for
decreases-emit_for l =
    5 * max (the_size l.first.now) (max (the_size l.step.now) (the_size l.body.now)) + 3

abbrev pub invariant-emit_block-loop-statement : goal.invariant-emit_block-loop-statement
invariant-emit_block-loop-statement l = record {
  code : before (written l.code)
      (stmts_nodes l.names l.returns (block_view (drop l.statement-index l.block)))
      ≡ before (written l.initial.code) (stmts_nodes l.initial.names false (block_view l.block));
  names : IsBaseOf l.initial.names l.names;
}
