use Rattle.std.proofs.Common.{inl, inr, subst, sym}
use Rattle.strc_run.specs.Choices.{Choice}
use Rattle.strc_run.specs.Plans.{IsPlanOf}
use Rattle.strc_run.specs.Refuses.{IsTrueOf}
use Rattle.strc_run_refusal.specs.declared.placed_refusal.PlacedRefusal.{PlacedRefusal}
use Rattle.strc_cli.specs.Answering.{choice_of}
use Rattle.strc_cli.proofs.PlanAnswers.{same_choice}
use Rattle.strc_live.proofs.Reports.{reads_text}
use Rattle.strc_live.proofs.execute_live.execute_live.Goals as goal

pub returns-in_default-clause-reported : goal.returns-in_default-clause-reported
returns-in_default-clause-reported g c =
    c.refused.ensures.reported c.args.text.now c.args.command.now
    (g.I.Source.remaining c.args.input.now) (g.I.Source.remaining c.args.input.now)
    (subst (λ (placed : PlacedRefusal). IsTrueOf c.args.text.now (choice_of c.args.command.now)
    placed.refusal) (sym c.from.ensures) tt)

pub returns-in-Ok-compile_or_where-clause-reported :
    goal.returns-in-Ok-compile_or_where-clause-reported
returns-in-Ok-compile_or_where-clause-reported g c =
    c.run_plan.ensures.reported c.args.text.now
    (subst (λ (choice : Choice). IsPlanOf c.args.text.now choice c.in-Ok-compile_or_where.plan)
    (same_choice _ _ c.in-Ok.ensures.main c.in-Ok.ensures.ways c.in-Ok.ensures.fuse)
    c.in-Ok-compile_or_where.ensures.plan)

pub returns-in-Ok-compile_or_where-clause-unread : goal.returns-in-Ok-compile_or_where-clause-unread
returns-in-Ok-compile_or_where-clause-unread g c =
    elim c.run_plan.ensures.unread [
      | inl same ↦ inl same
      | inr reads ↦ inr (reads_text c.args.text.now c.args.command.now
          c.in-Ok-compile_or_where.plan
          (subst (λ (choice : Choice).
          IsPlanOf c.args.text.now choice c.in-Ok-compile_or_where.plan)
          (same_choice _ _ c.in-Ok.ensures.main c.in-Ok.ensures.ways c.in-Ok.ensures.fuse)
          c.in-Ok-compile_or_where.ensures.plan)
          (g.I.Source.remaining c.args.input.now) (g.I.Source.remaining c.args.input.now) reads)
    ]

pub returns-clause-reported : goal.returns-clause-reported
returns-clause-reported g c =
    c.refused-in-Err.ensures.reported c.args.text.now c.args.command.now
    (g.I.Source.remaining c.args.input.now) (g.I.Source.remaining c.args.input.now)
    (subst (λ (choice : Choice). IsTrueOf c.args.text.now choice c.in-Err.placed.refusal)
    (same_choice _ _ c.in-Ok.ensures.main c.in-Ok.ensures.ways c.in-Ok.ensures.fuse)
    c.in-Err.ensures.plan)
