use Rattle.std.proofs.Common.{◌-◌, length, drop, sym, ap, ◌∙◌}
use Rattle.strc_work_rules.specs.Verdicts.{context_of}
use Rattle.strc_work_rules.specs.Signatures.{with_parameters}
use Rattle.strc_work_rules.proofs.AcceptedHelpers.{helper_accepted}
use Rattle.strc_work_rules.proofs.TypedGrowth.{drop_parameters}
use Rattle.strc_work_rules.proofs.helpers.resolve_helper.Goals as goal

pub returns-clause-verdict : goal.returns-clause-verdict
returns-clause-verdict c = helper_accepted c.args.constants.now c.args.helpers.now c.args.fields.now
    c.args.known.now c.args.kind c.args.name.now c.args.parameters.now c.args.block.now
    (context_of c.helper_context-context.result) c.resolve_parameters.new.names c.len-start.result
    c.in_ok-name.name c.in_ok-parameters.parameters c.in_ok-block.block
    (sym c.has.ensures ∙ c.if-has.false) c.helper_context-context.ensures c.len-start.ensures
    c.in_ok-parameters.ensures.names c.in_ok-parameters.ensures.verdict
    c.in_ok-block.ensures.verdict c.in_ok-name.ensures

pub returns-clause-fields : goal.returns-clause-fields
returns-clause-fields c =
    let names = c.in_ok-block.ensures.names ∙ c.in_ok-parameters.ensures.names in
    c.leave.ensures
    ∙ ap (λ n. drop (length n - c.len-start.result) n) names
    ∙ ap (λ k. drop (length (with_parameters c.args.fields.now c.args.parameters.now) - k)
    (with_parameters c.args.fields.now c.args.parameters.now)) c.len-start.ensures
    ∙ drop_parameters c.args.fields.now c.args.parameters.now
