use Rattle.std.proofs.Common.{◌<◌, ◌+◌, [], ◌∷◌, ◌++◌, Ok, length, drop, sym, ap, ◌∙◌, arith}
use Rattle.std.proofs.Math.ListN.{drop_of_length-le}
use Rattle.std.proofs.lemmas.List.{append-nil}
use Rattle.std.proofs.lemmas.Result.{err_from_is_err_and}
use Rattle.strc_work_meaning.specs.declared.types.ValueType.TheVariants.{Int}
use Rattle.strc_work_rules.specs.Signatures.{with_parameters}
use Rattle.strc_work_rules.specs.Resolution as judged
use Rattle.strc_work_rules.proofs.Resolved.{plain_after, plain_after_step, plain_refused}
use Rattle.strc_work_rules.proofs.Resolved.{next_refused}
use Rattle.strc_work_rules.proofs.Resolved.{refusal_same, names_left}
use Rattle.strc_work_rules.proofs.helpers.resolve_parameters.Goals as goal

pub loop-parameter-preserved : goal.loop-parameter-preserved
loop-parameter-preserved c =
    let start = c.args.start in
    let parameters = c.args.parameters.now in
    let i = c.loop-parameter.parameter-index in
    let x = c.parameter-item.result in
    let within : i < length parameters = omega arith in
    let names = c.loop-parameter.names in
    let y = c.in_ok-push_next.ensures.ok.0 in
    let told = c.in_ok-push_next.ensures.ok.1 in
    let rest = drop (i + 1) parameters in
    let after = rw told at c.resolve_parameter-next.ensures.names in
    let split = names_left parameters i x within c.parameter-item.is in
    record {
      left =
          ap (λ l. plain_after l
          (judged.parameters_resolved c.resolve_parameter-next.new.names start rest))
          c.in_ok-push_next.ensures.ok.2
          ∙ ap (λ n. plain_after (c.loop-parameter.resolved.items ++ y ∷ [])
          (judged.parameters_resolved n start rest)) after
          ∙ plain_after_step c.loop-parameter.resolved.items y
          (judged.parameter_resolved names start x)
          (judged.parameters_resolved (record { 0 = x; 1 = Int } ∷ names) start rest)
          (rw told at c.resolve_parameter-next.ensures.verdict)
          ∙ sym (ap (λ l. plain_after c.loop-parameter.resolved.items
          (judged.parameters_resolved names start l)) split)
          ∙ c.loop-parameter.invariant.left;
      names = ap (λ n. with_parameters n rest) after
          ∙ sym (ap (λ l. with_parameters names l) split)
          ∙ c.loop-parameter.invariant.names;
    }

pub returns-in_err-push_next-clause-verdict : goal.returns-in_err-push_next-clause-verdict
returns-in_err-push_next-clause-verdict c =
    let start = c.args.start in
    let parameters = c.args.parameters.now in
    let i = c.loop-parameter.parameter-index in
    let x = c.parameter-item.result in
    let within : i < length parameters = omega arith in
    let names = c.loop-parameter.names in
    let e = c.in_err-push_next.field-0.0 in
    let refusal = next_refused (λ n. n) (judged.parameter_resolved names start x)
    c.resolve_parameter-next.result e c.resolve_parameter-next.ensures.verdict
    c.in_err-push_next.ensures.err in
    let p = err_from_is_err_and c.from_residual.result c.from_residual.ensures.1 in
    let here = plain_refused c.loop-parameter.resolved.items
    (judged.parameter_resolved names start x)
    (judged.parameters_resolved (record { 0 = x; 1 = Int } ∷ names) start
    (drop (i + 1) parameters)) e refusal in
    let left = ap (λ l. plain_after c.loop-parameter.resolved.items
    (judged.parameters_resolved names start l))
    (sym (names_left parameters i x within c.parameter-item.is))
    ∙ c.loop-parameter.invariant.left in
    rw (p.1, p.2) (refusal_same _ _ e left here)

pub returns-clause-verdict : goal.returns-clause-verdict
returns-clause-verdict c =
    sym c.loop-parameter.invariant.left
    ∙ ap (λ l. plain_after c.loop-parameter.resolved.items
    (judged.parameters_resolved c.loop-parameter.names c.args.start l))
    (drop_of_length-le c.args.parameters.now c.loop-parameter-test.false)
    ∙ ap Ok (append-nil c.loop-parameter.resolved.items)
