use Rattle.std.proofs.Common.{Ok, sym, ap, ◌∙◌, subst}
use Rattle.std.proofs.lemmas.Result.{err_from_is_err_and}
use Rattle.strc_lex_names.specs.Results.{result_and_then}
use Rattle.strc_parse_tree.specs.Tree as tree
use Rattle.strc_parse_tree.specs.View.{block_view, member_view}
use Rattle.strc_work_rules.specs.Resolution as judged
use Rattle.strc_work_rules.specs.Verdicts.{IsVerdict, context_of}
use Rattle.strc_parse_tree.proofs.Blocks.{member_view-Init, member_view-Prework, member_view-Work}
use Rattle.strc_work_rules.proofs.Members.{init_judged, prework_judged, main_work_judged}
use Rattle.strc_work_rules.proofs.Members.{work_judged}
use Rattle.strc_work_rules.proofs.Members.{helper_judged}
use Rattle.strc_work_rules.proofs.Resolved.{refusal_through, refusal_same}
use Rattle.strc_work_rules.specs.RefusedPlaces.{Stands}
use Rattle.strc_work_rules.proofs.RefusedPlaces.{place_same}
use Rattle.strc_work_rules.proofs.PlacesOfMembers.{init_place, prework_place, main_work_place}
use Rattle.strc_work_rules.proofs.PlacesOfMembers.{helper_member_place}
use Rattle.strc_work_rules.proofs.resolution.resolve_member.Goals as goal

pub returns-in_ok-block-in-Init-clause-verdict : goal.returns-in_ok-block-in-Init-clause-verdict
returns-in_ok-block-in-Init-clause-verdict c =
    sym (init_judged c.args.constants.now c.args.helpers.now c.args.input c.args.output
    c.args.fields.now
    c.args.before.now c.args.known.now (context_of c.start_context-context.result) c.args.member.now
    c.in-Init.block c.deref.result.now c.start_context-context.ensures
    c.deref.ensures.value c.in-Init.is)
    ∙ ap (λ r. result_and_then r (λ b. Ok (tree.Init b))) c.in_ok-block-in-Init.ensures.verdict
    ∙ ap Ok (sym (member_view-Init c.in_ok-block-in-Init.block))

pub returns-in_err-block-in-Init-clause-verdict : goal.returns-in_err-block-in-Init-clause-verdict
returns-in_err-block-in-Init-clause-verdict c =
    let p = err_from_is_err_and c.from_residual-in_err-block-in-Init.result
    c.from_residual-in_err-block-in-Init.ensures.1 in
    let refused = refusal_same _ _ c.in_err-block-in-Init.field-0.0
    (init_judged c.args.constants.now c.args.helpers.now c.args.input c.args.output
    c.args.fields.now c.args.before.now c.args.known.now
    (context_of c.start_context-context.result) c.args.member.now c.in-Init.block
    c.deref.result.now c.start_context-context.ensures
    c.deref.ensures.value c.in-Init.is)
    (refusal_through (judged.body_resolved
    (context_of c.start_context-context.result) c.args.fields.now
    (block_view c.deref.result.now))
    (λ b. Ok (tree.Init b)) c.in_err-block-in-Init.field-0.0
    c.in_err-block-in-Init.ensures.verdict) in
    rw (p.1, p.2) refused

pub returns-in_ok-work-in-Prework-clause-verdict : goal.returns-in_ok-work-in-Prework-clause-verdict
returns-in_ok-work-in-Prework-clause-verdict c =
    sym (prework_judged c.args.constants.now c.args.helpers.now c.args.input c.args.output
    c.args.fields.now
    c.args.before.now c.args.known.now c.args.member.now c.in-Prework.rates c.in-Prework.block
    c.deref-in-Prework.result.now c.deref-in-Prework-2.result.now
    c.deref-in-Prework.ensures.value c.deref-in-Prework-2.ensures.value c.in-Prework.is)
    ∙ ap (λ r. result_and_then r (λ w. Ok (tree.Prework w.rates w.block)))
    c.in_ok-work-in-Prework.ensures.verdict
    ∙ ap Ok (sym (member_view-Prework c.in_ok-work-in-Prework.work.rates
    c.in_ok-work-in-Prework.work.block))

pub returns-in_err-work-in-Prework-clause-verdict :
    goal.returns-in_err-work-in-Prework-clause-verdict
returns-in_err-work-in-Prework-clause-verdict c =
    let p = err_from_is_err_and c.from_residual-in_err-work-in-Prework.result
    c.from_residual-in_err-work-in-Prework.ensures.1 in
    let refused = refusal_same _ _ c.in_err-work-in-Prework.field-0.0
    (prework_judged c.args.constants.now c.args.helpers.now c.args.input c.args.output
    c.args.fields.now
    c.args.before.now c.args.known.now c.args.member.now c.in-Prework.rates c.in-Prework.block
    c.deref-in-Prework.result.now c.deref-in-Prework-2.result.now c.deref-in-Prework.ensures.value
    c.deref-in-Prework-2.ensures.value c.in-Prework.is)
    (refusal_through (work_judged c.args.constants.now c.args.helpers.now c.args.input c.args.output
    c.args.fields.now
    c.deref-in-Prework.result.now c.deref-in-Prework-2.result.now)
    (λ w. Ok (tree.Prework w.rates w.block)) c.in_err-work-in-Prework.field-0.0
    c.in_err-work-in-Prework.ensures.verdict) in
    rw (p.1, p.2) refused

pub returns-in_ok-work-in-Work-clause-verdict : goal.returns-in_ok-work-in-Work-clause-verdict
returns-in_ok-work-in-Work-clause-verdict c =
    sym (main_work_judged c.args.constants.now c.args.helpers.now c.args.input c.args.output
    c.args.fields.now
    c.args.before.now c.args.known.now c.args.member.now c.in-Work.rates c.in-Work.block
    c.deref-in-Work.result.now c.deref-in-Work-2.result.now c.deref-in-Work.ensures.value
    c.deref-in-Work-2.ensures.value c.in-Work.is)
    ∙ ap (λ r. result_and_then r (λ w. Ok (tree.Work w.rates w.block)))
    c.in_ok-work-in-Work.ensures.verdict
    ∙ ap Ok (sym (member_view-Work c.in_ok-work-in-Work.work.rates c.in_ok-work-in-Work.work.block))

pub returns-in_err-work-in-Work-clause-verdict : goal.returns-in_err-work-in-Work-clause-verdict
returns-in_err-work-in-Work-clause-verdict c =
    let p = err_from_is_err_and c.from_residual-in_err-work-in-Work.result
    c.from_residual-in_err-work-in-Work.ensures.1 in
    let refused = refusal_same _ _ c.in_err-work-in-Work.field-0.0
    (main_work_judged c.args.constants.now c.args.helpers.now c.args.input c.args.output
    c.args.fields.now
    c.args.before.now c.args.known.now c.args.member.now c.in-Work.rates c.in-Work.block
    c.deref-in-Work.result.now
    c.deref-in-Work-2.result.now c.deref-in-Work.ensures.value c.deref-in-Work-2.ensures.value
    c.in-Work.is)
    (refusal_through (work_judged c.args.constants.now c.args.helpers.now c.args.input c.args.output
    c.args.fields.now
    c.deref-in-Work.result.now c.deref-in-Work-2.result.now)
    (λ w. Ok (tree.Work w.rates w.block)) c.in_err-work-in-Work.field-0.0
    c.in_err-work-in-Work.ensures.verdict) in
    rw (p.1, p.2) refused

pub returns-in-Helper-clause-verdict : goal.returns-in-Helper-clause-verdict
returns-in-Helper-clause-verdict c =
    subst (λ r. IsVerdict member_view r c.resolve_helper.result)
    (helper_judged c.args.constants.now c.args.helpers.now c.args.input c.args.output
    c.args.fields.now c.args.before.now c.args.known.now c.args.member.now c.in-Helper.kind
    c.in-Helper.name c.in-Helper.parameters c.in-Helper.block c.deref-in-Helper.result.now
    c.deref-in-Helper-2.result.now c.deref-in-Helper.ensures.value
    c.deref-in-Helper-2.ensures.value c.in-Helper.is)
    c.resolve_helper.ensures.verdict

pub returns-in_err-block-in-Init-clause-here : goal.returns-in_err-block-in-Init-clause-here
returns-in_err-block-in-Init-clause-here c =
    let p = err_from_is_err_and c.from_residual-in_err-block-in-Init.result
    c.from_residual-in_err-block-in-Init.ensures.1 in
    rw (p.1, p.2) (place_same c.in_err-block-in-Init.field-0.0 _ _ _
    (init_place c.args.constants.now c.args.helpers.now c.args.input c.args.output
    c.args.fields.now c.args.known.now c.args.here.now (context_of c.start_context-context.result)
    c.args.member.now c.in-Init.block c.deref.result.now c.start_context-context.ensures
    c.deref.ensures.value c.in-Init.is) c.in_err-block-in-Init.ensures.here)

pub returns-in_err-work-in-Prework-clause-here : goal.returns-in_err-work-in-Prework-clause-here
returns-in_err-work-in-Prework-clause-here c =
    let p = err_from_is_err_and c.from_residual-in_err-work-in-Prework.result
    c.from_residual-in_err-work-in-Prework.ensures.1 in
    rw (p.1, p.2) (place_same c.in_err-work-in-Prework.field-0.0 _ _ _
    (prework_place c.args.constants.now c.args.helpers.now c.args.input c.args.output
    c.args.fields.now c.args.known.now c.args.here.now c.args.member.now c.in-Prework.rates
    c.in-Prework.block c.deref-in-Prework.result.now c.deref-in-Prework-2.result.now
    c.deref-in-Prework.ensures.value c.deref-in-Prework-2.ensures.value c.in-Prework.is)
    c.in_err-work-in-Prework.ensures.here)

pub returns-in_err-work-in-Work-clause-here : goal.returns-in_err-work-in-Work-clause-here
returns-in_err-work-in-Work-clause-here c =
    let p = err_from_is_err_and c.from_residual-in_err-work-in-Work.result
    c.from_residual-in_err-work-in-Work.ensures.1 in
    rw (p.1, p.2) (place_same c.in_err-work-in-Work.field-0.0 _ _ _
    (main_work_place c.args.constants.now c.args.helpers.now c.args.input c.args.output
    c.args.fields.now c.args.known.now c.args.here.now c.args.member.now c.in-Work.rates
    c.in-Work.block c.deref-in-Work.result.now c.deref-in-Work-2.result.now
    c.deref-in-Work.ensures.value c.deref-in-Work-2.ensures.value c.in-Work.is)
    c.in_err-work-in-Work.ensures.here)

pub returns-in-Helper-clause-here : goal.returns-in-Helper-clause-here
returns-in-Helper-clause-here c =
    subst (λ p. Stands c.resolve_helper.result p c.args.here.now c.resolve_helper.new.here)
    (helper_member_place c.args.constants.now c.args.helpers.now c.args.input c.args.output
    c.args.fields.now c.args.known.now c.args.here.now c.args.member.now c.in-Helper.kind
    c.in-Helper.name c.in-Helper.parameters c.in-Helper.block c.deref-in-Helper.result.now
    c.deref-in-Helper-2.result.now c.deref-in-Helper.ensures.value
    c.deref-in-Helper-2.ensures.value c.in-Helper.is)
    c.resolve_helper.ensures.here

pub returns-in_ok-member-in-Fields-clause-verdict :
    goal.returns-in_ok-member-in-Fields-clause-verdict
returns-in_ok-member-in-Fields-clause-verdict c =
    rw c.in-Fields.is (c.in_ok-member-in-Fields.ensures.verdict c.args.input c.args.output
    c.args.known.now)

pub returns-in_err-member-in-Fields-clause-verdict :
    goal.returns-in_err-member-in-Fields-clause-verdict
returns-in_err-member-in-Fields-clause-verdict c =
    let p = err_from_is_err_and c.from_residual.result c.from_residual.ensures.1 in
    rw (p.1, p.2) (rw c.in-Fields.is (c.in_err-member-in-Fields.ensures.verdict c.args.input
    c.args.output c.args.known.now))
