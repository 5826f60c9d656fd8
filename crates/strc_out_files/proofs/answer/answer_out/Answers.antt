use Rattle.std.proofs.Common.{◌≡◌, Ok, List, map, ap, sym, subst, false, inl, inr}
use Rattle.strc_run.specs.Choices.{Choice}
use Rattle.strc_run.specs.Located.{IsLocated}
use Rattle.strc_run.specs.Plans.{IsPlanOf}
use Rattle.strc_run.specs.Refuses.{IsTrueOf}
use Rattle.strc_cli.specs.Answering.{ReadsInput, choice_of}
use Rattle.strc_cli.proofs.PlanAnswers.{reads_text, same_choice}
use Rattle.strc_cli_words.specs.Outs.{names_of}
use Rattle.strc_cli_words.specs.declared.line.Command.{Command}
use Rattle.strc_out_files.specs.Outs.{IsOutAnswer}
use Rattle.strc_out_files.proofs.Outing.{memory_located, memory_true, never_ran, refused_at}
use Rattle.strc_out_files.proofs.Outing.{refused_so}
use Rattle.strc_out_files.proofs.answer.answer_out.Goals as goal

pub returns-in-Ok-compile_or_where-clause-answered : goal.returns-in-Ok-compile_or_where-clause-answered
returns-in-Ok-compile_or_where-clause-answered g c =
    let text = c.args.text.now in
    let plan = c.in-Ok-compile_or_where.plan in
    let is : IsPlanOf text (choice_of c.args.command.now) plan =
    subst (λ (choice : Choice). IsPlanOf text choice plan)
    (same_choice _ _ c.in-Ok.ensures.main c.in-Ok.ensures.ways c.in-Ok.ensures.fuse)
    c.in-Ok-compile_or_where.ensures.plan in
    subst
    (λ (command : Command). IsOutAnswer text command (map names_of c.args.outs.now)
    (g.I.Source.remaining c.args.input.now) c.answer_named.result)
    (sym c.in-Run.is)
    (rw (← c.sharing_of-sharing.ensures.workers)
    (c.answer_named.ensures.answered text _ _ _ c.in-Run.batch c.in-Run.stats
    (subst (λ (choice : Choice). IsPlanOf text choice plan) (ap choice_of c.in-Run.is) is)))

pub returns-in-Ok-compile_or_where-clause-unread : goal.returns-in-Ok-compile_or_where-clause-unread
returns-in-Ok-compile_or_where-clause-unread g c =
    let text = c.args.text.now in
    let plan = c.in-Ok-compile_or_where.plan in
    let is : IsPlanOf text (choice_of c.args.command.now) plan =
    subst (λ (choice : Choice). IsPlanOf text choice plan)
    (same_choice _ _ c.in-Ok.ensures.main c.in-Ok.ensures.ways c.in-Ok.ensures.fuse)
    c.in-Ok-compile_or_where.ensures.plan in
    elim c.answer_named.ensures.unread [
      | inl same ↦ inl same
      | inr reads ↦ inr (subst (ReadsInput text) (sym c.in-Run.is)
          (reads_text text _ _ _ plan
          (subst (λ (choice : Choice). IsPlanOf text choice plan) (ap choice_of c.in-Run.is)
          is) c.in-Run.rounds c.in-Run.workers c.in-Run.batch false
          (g.I.Source.remaining c.args.input.now) reads))
    ]

pub returns-in-Ok-compile_or_where-clause-located : goal.returns-in-Ok-compile_or_where-clause-located
returns-in-Ok-compile_or_where-clause-located g c =
    c.answer_named.ensures.located c.args.text.now c.args.command.now

pub returns-in-Err-clause-answered : goal.returns-in-Err-clause-answered
returns-in-Err-clause-answered g c =
    refused_so c.args.text.now c.args.command.now _ _ c.in-Err.placed c.refused-in-Err.result
    (subst (λ (choice : Choice). IsTrueOf c.args.text.now choice c.in-Err.placed.refusal)
    (same_choice _ _ c.in-Ok.ensures.main c.in-Ok.ensures.ways c.in-Ok.ensures.fuse)
    c.in-Err.ensures.plan)
    c.refused-in-Err.ensures

pub returns-in-Err-clause-located : goal.returns-in-Err-clause-located
returns-in-Err-clause-located g c =
    refused_at c.args.text.now c.args.command.now c.in-Err.placed c.refused-in-Err.result
    (subst (λ (choice : Choice). IsLocated c.args.text.now choice c.in-Err.placed)
    (same_choice _ _ c.in-Ok.ensures.main c.in-Ok.ensures.ways c.in-Ok.ensures.fuse)
    c.in-Err.ensures.located)
    c.refused-in-Err.ensures
