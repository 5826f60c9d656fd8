use Rattle.std.proofs.Common.{sym, ap, ◌∙◌}
use Rattle.strc_parse_tree.specs.View.{expr_view, listed_view}
use Rattle.strc_parse_tree.proofs.Calls.{expr_view-Call}
use Rattle.strc_work_writes.specs.LocalWrites.{expr_writes, exprs_write}
use Rattle.strc_work_writes.proofs.writes.+expression.Goals as goal

pub expression_writes-returns-in-Call : goal.expression_writes-returns-in-Call
expression_writes-returns-in-Call t c =
    c.arguments_write.ensures
    ∙ ap (λ items. exprs_write c.args.name.now (listed_view items)) c.deref.ensures.value
    ∙ ap (expr_writes c.args.name.now) (sym (expr_view-Call c.in-Call.field-0 c.in-Call.arguments))
    ∙ ap (λ e. expr_writes c.args.name.now (expr_view e)) (sym c.in-Call.is)
