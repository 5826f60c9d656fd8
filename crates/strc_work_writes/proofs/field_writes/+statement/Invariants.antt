use Rattle.std.proofs.Common.{◌≡◌, ◌+◌, ◌*◌, max, drop}
use Rattle.strc_parse_tree.proofs.tree.Stmt.TheLaws.{the_size}
use Rattle.strc_parse_tree.specs.View.{block_view}
use Rattle.strc_work_writes.specs.Walk.{stmts_write_field}
use Rattle.strc_work_writes.proofs.Growth.{StandsOn}
use Rattle.strc_work_writes.proofs.field_writes.+statement.Given as goal

abbrev pub decreases-block_writes_field : goal.decreases-block_writes_field
decreases-block_writes_field l = 3 * goal.size-block_writes_field l + 3

abbrev pub decreases-statement_writes_field : goal.decreases-statement_writes_field
decreases-statement_writes_field l = 3 * the_size l.statement.now + 1

abbrev pub decreases-inner_writes_field : goal.decreases-inner_writes_field
decreases-inner_writes_field l = 3 * the_size l.statement.now + 2

abbrev pub decreases-guarded_writes_field : goal.decreases-guarded_writes_field
decreases-guarded_writes_field l = 3 * the_size l.body.now + 3

abbrev pub decreases-branches_write_field : goal.decreases-branches_write_field
decreases-branches_write_field l = 3 * max (the_size l.chosen.now) (the_size l.other.now) + 3

abbrev pub decreases-loop_writes_field : goal.decreases-loop_writes_field
decreases-loop_writes_field l = 3 * max (the_size l.first.now)
    (max (the_size l.step.now) (the_size l.body.now)) + 3

abbrev pub invariant-block_writes_field-loop-statement :
    goal.invariant-block_writes_field-loop-statement
invariant-block_writes_field-loop-statement l = record {
  writes : stmts_write_field l.fields l.locals (block_view (drop l.statement-index l.block))
      ≡ stmts_write_field l.fields l.initial.locals (block_view l.block);
  locals : StandsOn l.initial.locals l.locals;
}
