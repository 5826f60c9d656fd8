use Rattle.std.proofs.Common.{◌<◌, ◌+◌, Ok, length, drop, sym, ap, ◌∙◌, subst, arith}
use Rattle.std.proofs.Math.ListN.{drop_of_length-le}
use Rattle.std.proofs.lemmas.Result.{err_from_is_err_and}
use Rattle.strc_lex_names.specs.Results.{result_and_then}
use Rattle.strc_parse_tree.specs.View.{expr_view, listed_view}
use Rattle.strc_work_meaning.specs.declared.types.ValueType.TheVariants.{Int}
use Rattle.strc_work_rules.specs.Resolution as judged
use Rattle.strc_work_rules.specs.Verdicts.{IsVerdict, context_of, typed_view}
use Rattle.strc_parse_tree.proofs.Calls.{listed_view-drop}
use Rattle.strc_work_rules.proofs.Resolved.{arguments_after, arguments_after_step}
use Rattle.strc_work_rules.proofs.Resolved.{arguments_refused}
use Rattle.strc_work_rules.proofs.Resolved.{arguments_onto-none, next_refused, refusal_same}
use Rattle.strc_work_rules.proofs.Resolved.{refusal_through}
use Rattle.strc_work_rules.proofs.Calls.{call_unnamed, call_refused, call_accepted, of_call}
use Rattle.strc_work_rules.proofs.expression_rules.+expression.Goals as goal

pub resolve_arguments-loop-argument-preserved : goal.resolve_arguments-loop-argument-preserved
resolve_arguments-loop-argument-preserved t c =
    let context = context_of c.args.context.now in
    let names = c.args.names.now in
    let items = c.args.arguments.now in
    let i = c.loop-argument.argument-index in
    let lt : i < length items = omega arith in
    let x = c.argument-item.result in
    let y = c.in_ok-push_next.ensures.ok.0 in
    let told = c.in_ok-push_next.ensures.ok.1 in
    let rest = listed_view (drop (i + 1) items) in
    ap (λ l. arguments_after l (judged.arguments_resolved context names rest))
    c.in_ok-push_next.ensures.ok.2
    ∙ arguments_after_step context names c.loop-argument.resolved.items (expr_view x) y rest
    (rw told at c.resolve_as-next.ensures)
    ∙ sym (ap (λ l. arguments_after c.loop-argument.resolved.items
    (judged.arguments_resolved context names l)) (listed_view-drop items i x lt c.argument-item.is))
    ∙ c.loop-argument.invariant

pub resolve_arguments-returns-in_err-push_next : goal.resolve_arguments-returns-in_err-push_next
resolve_arguments-returns-in_err-push_next t c =
    let context = context_of c.args.context.now in
    let names = c.args.names.now in
    let items = c.args.arguments.now in
    let i = c.loop-argument.argument-index in
    let lt : i < length items = omega arith in
    let x = c.argument-item.result in
    let e = c.in_err-push_next.field-0.0 in
    let refusal = next_refused expr_view (judged.expr_as context names Int (expr_view x))
    c.resolve_as-next.result e c.resolve_as-next.ensures c.in_err-push_next.ensures.err in
    let p = err_from_is_err_and c.from_residual.result c.from_residual.ensures.1 in
    let here = arguments_refused context names c.loop-argument.resolved.items (expr_view x)
    (listed_view (drop (i + 1) items)) e refusal in
    let left = ap (λ l. arguments_after c.loop-argument.resolved.items
    (judged.arguments_resolved context names l))
    (sym (listed_view-drop items i x lt c.argument-item.is)) ∙ c.loop-argument.invariant in
    rw (p.1, p.2) (refusal_same _ _ e left here)

pub resolve_arguments-returns : goal.resolve_arguments-returns
resolve_arguments-returns t c =
    let context = context_of c.args.context.now in
    sym c.loop-argument.invariant
    ∙ ap (λ l. arguments_after c.loop-argument.resolved.items
    (judged.arguments_resolved context c.args.names.now (listed_view l)))
    (drop_of_length-le c.args.arguments.now c.loop-argument-test.false)
    ∙ ap Ok (arguments_onto-none c.loop-argument.resolved.items)

pub resolve_call-returns-in_err-kind : goal.resolve_call-returns-in_err-kind
resolve_call-returns-in_err-kind t c =
    let e = c.in_err-kind.field-0.0 in
    let p = err_from_is_err_and c.from_residual.result c.from_residual.ensures.1 in
    rw (p.1, p.2) (call_unnamed (context_of c.args.context.now) c.args.names.now c.args.name.now
    c.args.arguments.now e c.in_err-kind.ensures)

pub resolve_call-returns-in_err-arguments : goal.resolve_call-returns-in_err-arguments
resolve_call-returns-in_err-arguments t c =
    let e = c.in_err-arguments.field-0.0 in
    let p = err_from_is_err_and c.from_residual-in_err-arguments.result
    c.from_residual-in_err-arguments.ensures.1 in
    rw (p.1, p.2) (call_refused (context_of c.args.context.now) c.args.names.now c.args.name.now
    c.args.arguments.now c.in_ok-kind.kind e c.in_ok-kind.ensures c.in_err-arguments.ensures)

pub resolve_call-returns : goal.resolve_call-returns
resolve_call-returns t c = call_accepted (context_of c.args.context.now) c.args.names.now
    c.args.name.now c.args.arguments.now c.in_ok-kind.kind c.in_ok-name.name
    c.in_ok-arguments.arguments c.in_ok-kind.ensures c.in_ok-arguments.ensures
    c.in_ok-name.ensures

pub resolve_expr-returns-in_err-called-in-Call : goal.resolve_expr-returns-in_err-called-in-Call
resolve_expr-returns-in_err-called-in-Call t c =
    let context = context_of c.args.context.now in
    let names = c.args.names.now in
    let e = c.in_err-called-in-Call.field-0.0 in
    let p = err_from_is_err_and c.from_residual-in_err-called-in-Call.result
    c.from_residual-in_err-called-in-Call.ensures.1 in
    let whole = of_call (judged.expr_resolved context names) c.args.value.now c.in-Call.name
    c.in-Call.arguments c.deref-in-Call.result.now c.deref-in-Call.ensures.value c.in-Call.is in
    let inside = refusal_through (judged.call_resolved context names c.in-Call.name
    (listed_view c.deref-in-Call.result.now)) (λ called. judged.called_typed called) e
    c.in_err-called-in-Call.ensures in
    rw (p.1, p.2) (refusal_same _ _ e whole inside)

pub resolve_expr-returns-in_ok-called-in-Call : goal.resolve_expr-returns-in_ok-called-in-Call
resolve_expr-returns-in_ok-called-in-Call t c =
    let context = context_of c.args.context.now in
    let names = c.args.names.now in
    let whole = of_call (judged.expr_resolved context names) c.args.value.now c.in-Call.name
    c.in-Call.arguments c.deref-in-Call.result.now c.deref-in-Call.ensures.value c.in-Call.is in
    subst (λ r. IsVerdict typed_view r c.value_called.result)
    (sym (ap (λ r. result_and_then r (λ called. judged.called_typed called))
    c.in_ok-called-in-Call.ensures) ∙ whole) c.value_called.ensures
