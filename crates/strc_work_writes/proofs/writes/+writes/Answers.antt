use Rattle.std.proofs.Common.{sym, ap, ◌∙◌}
use Rattle.strc_parse_tree.specs.View.{stmt_view, block_view}
use Rattle.strc_parse_tree.proofs.Blocks.{stmt_view-Block}
use Rattle.strc_work_writes.specs.LocalWrites.{stmt_writes, stmts_write}
use Rattle.strc_work_writes.proofs.writes.+writes.Goals as goal

pub statement_writes-returns-in-Block : goal.statement_writes-returns-in-Block
statement_writes-returns-in-Block t c =
    c.block_writes.ensures
    ∙ ap (λ items. stmts_write c.args.name.now (block_view items)) c.deref.ensures.value
    ∙ ap (stmt_writes c.args.name.now) (sym (stmt_view-Block c.in-Block.body))
    ∙ ap (λ s. stmt_writes c.args.name.now (stmt_view s)) (sym c.in-Block.is)
