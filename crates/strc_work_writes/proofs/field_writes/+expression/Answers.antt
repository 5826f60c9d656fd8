use Rattle.std.proofs.Common.{sym, ap, ◌∙◌}
use Rattle.strc_parse_tree.specs.View.{expr_view, listed_view}
use Rattle.strc_parse_tree.proofs.Calls.{expr_view-Call}
use Rattle.strc_work_writes.specs.Walk.{expr_writes_field, exprs_write_field}
use Rattle.strc_work_writes.proofs.field_writes.+expression.Goals as goal

pub expression_writes_field-returns-in-Call : goal.expression_writes_field-returns-in-Call
expression_writes_field-returns-in-Call t c =
    let fields = c.args.fields.now in
    let locals = c.args.locals.now in
    c.arguments_write_field.ensures
    ∙ ap (λ items. exprs_write_field fields locals (listed_view items)) c.deref.ensures.value
    ∙ ap (expr_writes_field fields locals)
    (sym (expr_view-Call c.in-Call.field-0 c.in-Call.arguments))
    ∙ ap (λ e. expr_writes_field fields locals (expr_view e)) (sym c.in-Call.is)
