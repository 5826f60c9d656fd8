use Rattle.std.proofs.Common.{◌≡◌, ◌<◌, ◌+◌, OnOk, length, drop, sym, ap, ◌∷◌, subst, ◌∙◌, arith}
use Rattle.strc_parse_tree.specs.View.{expr_view, listed_view}
use Rattle.strc_parse_tree.proofs.Calls.{expr_view-Call, listed_view-drop}
use Rattle.strc_work_writes.specs.Calls.{called_in_expr, called_in_arguments}
use Rattle.strc_work_writes.specs.Writers.{Places, with_calls}
use Rattle.strc_work_writes.proofs.Search.{calls_after}
use Rattle.strc_work_writes.proofs.calls.+expression.Goals as goal

pub find_in_arguments-loop-argument-preserved : goal.find_in_arguments-loop-argument-preserved
find_in_arguments-loop-argument-preserved t c =
    let helpers : Places = c.args.helpers.now in
    let found : Places = c.loop-argument.found in
    let items = c.args.arguments.now in
    let i = c.loop-argument.argument-index in
    let lt : i < length items = omega arith in
    let x = c.argument-item.result in
    let rest = called_in_arguments (listed_view (drop (i + 1) items)) in
    ap (λ l. with_calls helpers l rest) c.in_ok-find_in_expression.ensures
    ∙ sym (calls_after helpers found (called_in_expr (expr_view x)) rest)
    ∙ ap (λ a. with_calls helpers found (called_in_arguments a))
    (sym (listed_view-drop items i x lt c.argument-item.is))
    ∙ c.loop-argument.invariant

pub find_in_expression-returns-in_ok-find_called-in-Call :
    goal.find_in_expression-returns-in_ok-find_called-in-Call
find_in_expression-returns-in_ok-find_called-in-Call t c =
    let helpers : Places = c.args.helpers.now in
    let found : Places = c.args.found.now in
    let called = c.in-Call.called in
    let arguments = c.in-Call.arguments in
    let is =
    ap (λ l. with_calls helpers l (called_in_arguments (listed_view c.deref.result.now)))
    c.in_ok-find_called-in-Call.ensures
    ∙ ap (λ items. with_calls helpers found
    (called ∷ called_in_arguments (listed_view items))) c.deref.ensures.value
    ∙ ap (λ e. with_calls helpers found (called_in_expr e))
    (sym (expr_view-Call called arguments))
    ∙ ap (λ e. with_calls helpers found (called_in_expr (expr_view e))) (sym c.in-Call.is) in
    subst (λ (after : Places). OnOk c.find_in_arguments.result
    (c.find_in_arguments.new.found ≡ after)) is c.find_in_arguments.ensures
