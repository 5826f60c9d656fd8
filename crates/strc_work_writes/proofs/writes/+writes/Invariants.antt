use Rattle.std.proofs.Common.{◌≡◌, drop}
use Rattle.strc_parse_tree.specs.View.{block_view}
use Rattle.strc_work_writes.specs.LocalWrites.{stmts_write}
use Rattle.strc_work_writes.proofs.writes.+writes.Given as goal

abbrev pub invariant-block_writes-loop-statement : goal.invariant-block_writes-loop-statement
invariant-block_writes-loop-statement l =
    stmts_write l.name (block_view (drop l.statement-index l.block))
    ≡ stmts_write l.name (block_view l.block)
