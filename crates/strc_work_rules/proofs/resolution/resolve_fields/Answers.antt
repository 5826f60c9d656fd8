use Rattle.std.proofs.Common.{◌<◌, ◌+◌, [], ◌∷◌, ◌++◌, Ok, map, length, drop, sym, ap, ◌∙◌, arith}
use Rattle.std.proofs.Math.ListN.{drop_of_length-le}
use Rattle.std.proofs.lemmas.List.{append-nil}
use Rattle.std.proofs.lemmas.Result.{err_from_is_err_and}
use Rattle.strc_parse_tree.specs.View.{variable_view}
use Rattle.strc_work_meaning.specs.Typing.{names_with}
use Rattle.strc_work_rules.specs.Resolution as judged
use Rattle.strc_work_rules.specs.Verdicts.{context_of}
use Rattle.strc_lex_names.proofs.Lists.{map-drop}
use Rattle.strc_work_rules.proofs.Resolved.{list_after, list_after_step, list_refused, next_refused}
use Rattle.strc_work_rules.proofs.Resolved.{refusal_same}
use Rattle.strc_work_rules.proofs.resolution.resolve_fields.Goals as goal

pub loop-variable-preserved : goal.loop-variable-preserved
loop-variable-preserved c =
    let context = context_of c.args.context.now in
    let kind = c.args.kind in
    let fields = c.args.fields.now in
    let variables = c.args.variables.now in
    let i = c.loop-variable.variable-index in
    let x = c.variable-item.result in
    let within : i < length variables = omega arith in
    let before = c.loop-variable.before in
    let y = c.in_ok-push_next.ensures.ok.0 in
    let told = c.in_ok-push_next.ensures.ok.1 in
    let rest = map variable_view (drop (i + 1) variables) in
    let after = rw told at c.resolve_field-next.ensures.before in
    let split = map-drop variable_view variables i x within c.variable-item.is in
    record {
      left =
          ap (λ l. list_after variable_view l
          (judged.fields_resolved context fields c.resolve_field-next.new.before kind rest))
          c.in_ok-push_next.ensures.ok.2
          ∙ ap (λ n. list_after variable_view (c.loop-variable.resolved.items ++ y ∷ [])
          (judged.fields_resolved context fields n kind rest)) after
          ∙ list_after_step variable_view c.loop-variable.resolved.items y
          (judged.field_resolved context fields before kind (variable_view x))
          (judged.fields_resolved context fields (x.name ∷ before) kind rest)
          (rw told at c.resolve_field-next.ensures.verdict)
          ∙ sym (ap (λ l. list_after variable_view c.loop-variable.resolved.items
          (judged.fields_resolved context fields before kind l)) split)
          ∙ c.loop-variable.invariant.left;
      before = ap (λ n. names_with n rest) after
          ∙ sym (ap (λ l. names_with before l) split)
          ∙ c.loop-variable.invariant.before;
    }

pub returns-in_err-push_next-clause-verdict : goal.returns-in_err-push_next-clause-verdict
returns-in_err-push_next-clause-verdict c =
    let context = context_of c.args.context.now in
    let kind = c.args.kind in
    let fields = c.args.fields.now in
    let variables = c.args.variables.now in
    let i = c.loop-variable.variable-index in
    let x = c.variable-item.result in
    let within : i < length variables = omega arith in
    let before = c.loop-variable.before in
    let e = c.in_err-push_next.field-0.0 in
    let refusal = next_refused variable_view
    (judged.field_resolved context fields before kind (variable_view x))
    c.resolve_field-next.result e c.resolve_field-next.ensures.verdict
    c.in_err-push_next.ensures.err in
    let p = err_from_is_err_and c.from_residual.result c.from_residual.ensures.1 in
    let here = list_refused variable_view c.loop-variable.resolved.items
    (judged.field_resolved context fields before kind (variable_view x))
    (judged.fields_resolved context fields (x.name ∷ before) kind
    (map variable_view (drop (i + 1) variables)))
    e refusal in
    let left = ap (λ l. list_after variable_view c.loop-variable.resolved.items
    (judged.fields_resolved context fields before kind l))
    (sym (map-drop variable_view variables i x within c.variable-item.is))
    ∙ c.loop-variable.invariant.left in
    rw (p.1, p.2) (refusal_same _ _ e left here)

pub returns-clause-verdict : goal.returns-clause-verdict
returns-clause-verdict c =
    let context = context_of c.args.context.now in
    let kind = c.args.kind in
    let fields = c.args.fields.now in
    sym c.loop-variable.invariant.left
    ∙ ap (λ l. list_after variable_view c.loop-variable.resolved.items
    (judged.fields_resolved context fields c.loop-variable.before kind (map variable_view l)))
    (drop_of_length-le c.args.variables.now c.loop-variable-test.false)
    ∙ ap Ok (append-nil (map variable_view c.loop-variable.resolved.items))
