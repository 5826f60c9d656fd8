use Rattle.std.proofs.Common.{inl, inr, subst}
use Rattle.strc_elab_stream.specs.View.{stream_view}
use Rattle.strc_run.specs.Choices.{Choice}
use Rattle.strc_run.specs.Located.{IsLocated}
use Rattle.strc_run.specs.Plans.{IsPlanOf}
use Rattle.strc_run.specs.Streams.{IsStreamOf}
use Rattle.strc_cli.proofs.PlanAnswers.{same_choice}
use Rattle.strc_cli.proofs.answer.answer_to.Goals as goal

pub returns-in-Err-clause-located : goal.returns-in-Err-clause-located
returns-in-Err-clause-located g c =
    subst
    (λ (choice : Choice). IsLocated c.args.text.now choice c.in-Err.placed)
    (same_choice _ _ c.in-Ok.ensures.main c.in-Ok.ensures.ways c.in-Ok.ensures.fuse)
    c.in-Err.ensures.located

pub returns-clause-answered : goal.returns-clause-answered
returns-clause-answered g c =
    let same = same_choice _ _ c.in-Ok.ensures.main c.in-Ok.ensures.ways c.in-Ok.ensures.fuse in
    c.answer_compiled.ensures.answered c.args.text.now
    (subst (λ (choice : Choice). IsPlanOf c.args.text.now choice
    c.in-Ok-compile_whole.compiled.plan) same c.in-Ok-compile_whole.ensures.compiled.0)
    (subst (λ (choice : Choice). IsStreamOf c.args.text.now choice.main
    (stream_view c.in-Ok-compile_whole.compiled.stream)) same
    c.in-Ok-compile_whole.ensures.compiled.1)

pub returns-clause-unread : goal.returns-clause-unread
returns-clause-unread g c =
    let same = same_choice _ _ c.in-Ok.ensures.main c.in-Ok.ensures.ways c.in-Ok.ensures.fuse in
    elim c.answer_compiled.ensures.unread [
      | inl untouched ↦ inl untouched
      | inr reads ↦ inr (reads c.args.text.now (subst (λ (choice : Choice).
          IsPlanOf c.args.text.now choice c.in-Ok-compile_whole.compiled.plan) same
          c.in-Ok-compile_whole.ensures.compiled.0))
    ]

pub returns-clause-located : goal.returns-clause-located
returns-clause-located g c = c.answer_compiled.ensures.located c.args.text.now
