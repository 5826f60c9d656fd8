use Rattle.std.proofs.Common.{sym, ap, ◌∙◌}
use Rattle.strc_parse_tree.specs.View.{expr_view, listed_view}
use Rattle.strc_parse_tree.proofs.Calls.{expr_view-Call}
use Rattle.strc_work_meaning.specs.Firing.{value_of, alone}
use Rattle.strc_elab_statements.specs.Saying.{store_of, arguments_done}
use Rattle.strc_elab_statements.proofs.Arguments.{call_ok, call_err}
use Rattle.strc_elab_statements.proofs.evaluation.+value.Goals as goal

pub value-returns-in-Ok-clause-says : goal.value-returns-in-Ok-clause-says
value-returns-in-Ok-clause-says t c =
    let store = store_of c.args.store.now in
    let items = c.in-Call.arguments.items in
    let given = sym (ap (λ l. arguments_done (listed_view l) store) c.deref-in-Call.ensures.value)
    ∙ c.in-Ok.ensures.says in
    ap (λ e. value_of alone (expr_view e) store) c.in-Call.is
    ∙ ap (λ e. value_of alone e store) (expr_view-Call c.in-Call.field-0 c.in-Call.arguments)
    ∙ call_ok c.in-Call.field-0 (listed_view items) store _ given

pub value-returns-in-Err-clause-says : goal.value-returns-in-Err-clause-says
value-returns-in-Err-clause-says t c =
    let store = store_of c.args.store.now in
    let items = c.in-Call.arguments.items in
    let given = sym (ap (λ l. arguments_done (listed_view l) store) c.deref-in-Call.ensures.value)
    ∙ c.in-Err.ensures.says in
    ap (λ e. value_of alone (expr_view e) store) c.in-Call.is
    ∙ ap (λ e. value_of alone e store) (expr_view-Call c.in-Call.field-0 c.in-Call.arguments)
    ∙ call_err c.in-Call.field-0 (listed_view items) store c.in-Err.cause given
