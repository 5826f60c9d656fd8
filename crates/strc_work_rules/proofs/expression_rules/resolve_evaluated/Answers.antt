use Rattle.std.proofs.Common.{Ok, sym, ap, ◌∙◌}
use Rattle.std.proofs.lemmas.Result.{err_from_is_err_and}
use Rattle.strc_lex_names.specs.Results.{result_and_then}
use Rattle.strc_parse_tree.specs.View.{listed_view}
use Rattle.strc_work_rules.specs.Resolution as judged
use Rattle.strc_work_rules.specs.Verdicts.{context_of}
use Rattle.strc_work_rules.proofs.Resolved.{refusal_same, refusal_through}
use Rattle.strc_work_rules.proofs.Calls.{of_call}
use Rattle.strc_work_rules.proofs.expression_rules.resolve_evaluated.Goals as goal

pub returns-in_err-called : goal.returns-in_err-called
returns-in_err-called c =
    let context = context_of c.args.context.now in
    let names = c.args.names.now in
    let e = c.in_err-called.field-0.0 in
    let p = err_from_is_err_and c.from_residual.result c.from_residual.ensures.1 in
    let whole = of_call (judged.evaluated context names) c.args.value.now c.in-Call.name
    c.in-Call.arguments c.deref.result.now c.deref.ensures.value c.in-Call.is in
    let inside = refusal_through (judged.call_resolved context names c.in-Call.name
    (listed_view c.deref.result.now)) (λ called. Ok called.call) e c.in_err-called.ensures in
    rw (p.1, p.2) (refusal_same _ _ e whole inside)

pub returns-in-Call : goal.returns-in-Call
returns-in-Call c =
    let context = context_of c.args.context.now in
    let names = c.args.names.now in
    sym (of_call (judged.evaluated context names) c.args.value.now c.in-Call.name
    c.in-Call.arguments c.deref.result.now c.deref.ensures.value c.in-Call.is)
    ∙ ap (λ r. result_and_then r (λ called. Ok called.call)) c.in_ok-called.ensures
