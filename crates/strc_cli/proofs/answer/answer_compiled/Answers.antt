use Rattle.std.proofs.Common.{◌≡◌, None, false, ap, subst, sym, inl, inr, rules, Ok}
use Rattle.strc_run.specs.Choices.{Choice}
use Rattle.strc_elab_stream.specs.View.{stream_view}
use Rattle.strc_run.specs.Plans.{IsPlanOf}
use Rattle.strc_run.specs.Streams.{IsStreamOf}
use Rattle.strc_cli.specs.Answering.{choice_of, IsAnswered, ReadsInput}
use Rattle.strc_cli_words.specs.declared.line.Command.{Command}
use Rattle.strc_cli_words.specs.declared.line.Command.TheVariants as command
use Rattle.strc_cli.proofs.PictureAnswers.{picture_answers}
use Rattle.strc_cli.proofs.PlanAnswers.{reads_text}
use Rattle.strc_cli.proofs.ProgramAnswers.{program_answers}
use Rattle.strc_cli.proofs.Refusing.{drawn_so, stages_so, weighed_so}
use Rattle.strc_cli.proofs.answer.answer_compiled.Goals as goal

pub returns-in-Run-clause-answered : goal.returns-in-Run-clause-answered
returns-in-Run-clause-answered g c = λ text planned means.
    subst
    (λ (command : Command). IsAnswered text command (g.I.Source.remaining c.args.input.now)
    c.run_plan.result)
    (sym c.in-Run.is)
    (rw (← c.sharing_of-sharing.ensures.workers)
    (c.run_plan.ensures.run text _ _ _ c.in-Run.batch c.in-Run.stats
    (subst (λ (choice : Choice). IsPlanOf text choice c.args.compiled.plan)
    (ap choice_of c.in-Run.is) planned)))

pub returns-in-Run-clause-unread : goal.returns-in-Run-clause-unread
returns-in-Run-clause-unread g c =
    elim c.run_plan.ensures.unread [
      | inl same ↦ inl same
      | inr reads ↦ inr (λ text planned. subst (ReadsInput text) (sym c.in-Run.is)
          (reads_text text _ _ _ c.args.compiled.plan
          (subst (λ (choice : Choice). IsPlanOf text choice c.args.compiled.plan)
          (ap choice_of c.in-Run.is) planned)
          c.in-Run.rounds c.in-Run.workers c.in-Run.batch false
          (g.I.Source.remaining c.args.input.now) reads))
    ]

pub returns-in-Plan-clause-located : goal.returns-in-Plan-clause-located
returns-in-Plan-clause-located g c = λ text.
    weighed_so text c.args.command.now c.args.compiled.stream c.args.compiled.plan _
    c.weighed.result c.weighed.ensures

pub returns-in-Emit-clause-answered : goal.returns-in-Emit-clause-answered
returns-in-Emit-clause-answered g c = λ text planned means.
    let bytes = g.I.Source.remaining c.args.input.now in
    subst (λ (command : Command). IsAnswered text command bytes (Ok c.emitted.result))
    (sym c.in-Emit.is)
    (program_answers text c.in-Emit.main bytes c.args.compiled.plan c.emitted.result
    (subst (λ (choice : Choice). IsPlanOf text choice c.args.compiled.plan)
    (ap choice_of c.in-Emit.is) planned)
    c.emitted.ensures)

pub returns-in-Graph-None-None-None-default-default-default-clause-located :
    goal.returns-in-Graph-None-None-None-default-default-default-clause-located
returns-in-Graph-None-None-None-default-default-default-clause-located g c = λ text.
    drawn_so text c.args.command.now c.args.compiled.stream c.args.compiled.plan _
    c.graph_drawn.result c.graph_drawn.ensures

pub returns-clause-located : goal.returns-clause-located
returns-clause-located g c = λ text.
    stages_so text c.args.command.now c.args.compiled.stream c.args.compiled.plan _
    c.stages_drawn.result c.stages_drawn.ensures

pub returns-in-Graph-None-None-None-default-default-default-clause-answered :
    goal.returns-in-Graph-None-None-None-default-default-default-clause-answered
returns-in-Graph-None-None-None-default-default-default-clause-answered g c =
    λ text planned means.
    let it = c.in-Graph-None-None-None-default-default-default in
    let bytes = g.I.Source.remaining c.args.input.now in
    let is : c.args.command.now ≡ command.Graph None None None it.depth it.times it.main =
    search rules in
    subst (λ (some : Command). IsAnswered text some bytes (Ok c.graph_drawn.result)) (sym is)
    (picture_answers text it.depth it.times it.main bytes c.args.compiled.plan
    c.args.compiled.stream
    (subst (λ (choice : Choice). IsPlanOf text choice c.args.compiled.plan) (ap choice_of is)
    planned)
    (subst (λ (choice : Choice). IsStreamOf text choice.main
    (stream_view c.args.compiled.stream)) (ap choice_of is) means)
    c.graph_drawn.result c.graph_drawn.ensures)
