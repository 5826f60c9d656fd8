use Rattle.std.proofs.Common.{ℤ, List, Result, subst, sym}
use Rattle.strc_cli.specs.Answering.{IsAnswered}
use Rattle.strc_cli.specs.Input.{IsRunAnswer, RunsOwn}
use Rattle.strc_cli.specs.declared.answer.Answer.{Answer}
use Rattle.strc_cli.specs.declared.execute.CliError.{CliError}
use Rattle.strc_cli_words.specs.declared.line.Command.TheVariants as command
use Rattle.strc_cli.proofs.PlanAnswers.{input_run, own_run, own_unread, stopped_run}
use Rattle.strc_cli.proofs.answer.run_plan.Goals as goal

pub returns-in-Ok-clause-run : goal.returns-in-Ok-clause-run
returns-in-Ok-clause-run g c = λ text main ways fuse batch stats is.
    input_run text main ways fuse c.args.plan is c.args.rounds c.args.sharing.workers batch stats
    (g.I.Source.remaining c.args.input.now) c.plans_answer_texts.ensures
    c.in-Ok.numbers c.run_numbers.result c.in-Ok.ensures.numbers
    (subst (λ (input : List ℤ). IsRunAnswer c.args.plan input c.args.rounds
    c.args.sharing.workers c.run_numbers.result) c.deref.ensures.value
    c.run_numbers.ensures.run)

pub returns-in-Err-clause-run : goal.returns-in-Err-clause-run
returns-in-Err-clause-run g c = λ text main ways fuse batch stats is.
    subst (λ (result : Result Answer CliError).
    IsAnswered text (command.Run c.args.rounds c.args.sharing.workers ways fuse batch stats
    main)
    (g.I.Source.remaining c.args.input.now) result)
    (sym c.unread.ensures)
    (stopped_run text main ways fuse c.args.plan is c.args.rounds c.args.sharing.workers batch stats
    (g.I.Source.remaining c.args.input.now) c.in-Err.stop c.in-Err.ensures.numbers)

pub returns-in-Ok-clause-own : goal.returns-in-Ok-clause-own
returns-in-Ok-clause-own g c =
    own_run c.args.plan _ c.args.rounds c.args.sharing.workers c.run_numbers.result
    c.run_numbers.ensures.run

pub returns-in-Err-clause-own : goal.returns-in-Err-clause-own
returns-in-Err-clause-own g c =
    subst (RunsOwn c.args.plan) (sym c.unread.ensures) (own_unread c.args.plan c.in-Err.stop)
