use Rattle.std.proofs.Common.{◌≡◌, ◌∙◌, Result, Option, Ok, Some, None, ap, subst, arith, rules}
use Rattle.strc_cli.specs.Executes.{device_of}
use Rattle.strc_cli.specs.declared.execute.CliError.{CliError}
use Rattle.strc_cli.specs.declared.execute.CliError.TheVariants as error
use Rattle.strc_live.specs.Rounds.{GoesLive, StepsTo}
use Rattle.strc_live.specs.declared.ends.LiveEnd.{LiveEnd}
use Rattle.strc_live.proofs.Reports.{not_passed, ok_unread, passed_on}
use Rattle.strc_live.proofs.Steps.{limit_is_reached}
use Rattle.strc_live.proofs.rounds.run_rounds.Goals as goal

pub returns-clause-goes : goal.returns-clause-goes
returns-clause-goes g c tree first before one going =
    limit_is_reached c.live_feeds_write.ensures tree c.args.plan.now one first
    (g.I.Source.remaining c.loop-round.input) c.loop-round._round c.loop-round.feed
    c.loop-round.tape.leaves_open before
    (device_of (g.O.Sink.contents c.loop-round.output)
    (g.O.Sink.has_failed c.loop-round.output))
    (c.loop-round.invariant.going tree first before one going)
    c.live_feeds_reach_the_limit.ensures (g.I.Source.remaining c.loop-round.input)
    (omega arith)

pub returns-in_err-end-clause-goes : goal.returns-in_err-end-clause-goes
returns-in_err-end-clause-goes g c tree first before one going =
    passed_on (λ (r : Result LiveEnd CliError). GoesLive tree c.args.plan.now first
    (g.I.Source.remaining c.step.new.input) r c.step.new.tape.leaves_open before
    (device_of (g.O.Sink.contents c.step.new.output) (g.O.Sink.has_failed c.step.new.output)))
    c.from_residual.result c.in_err-end.field-0.0 c.from_residual.ensures.1
    (c.in_err-end.ensures.step tree first before c.loop-round._round one (omega arith)
    (c.loop-round.invariant.going tree first before one going))

pub returns-in_err-end-clause-steady : goal.returns-in_err-end-clause-steady
returns-in_err-end-clause-steady g c unread =
    c.in_err-end.ensures.steady (not_passed c.from_residual.result c.in_err-end.field-0.0
    error.Read c.from_residual.ensures.1 unread) ∙ c.loop-round.invariant.steady

pub returns-in-Some-clause-goes : goal.returns-in-Some-clause-goes
returns-in-Some-clause-goes g c tree first before one going =
    let is : c.in_ok-end.field-0 ≡ Some c.in-Some.end = search rules in
    subst (λ (o : Option LiveEnd). StepsTo tree c.args.plan.now first
    (g.I.Source.remaining c.step.new.input) c.loop-round._round (Ok o) c.step.new.feed
    c.step.new.tape.leaves_open before
    (device_of (g.O.Sink.contents c.step.new.output) (g.O.Sink.has_failed c.step.new.output))) is
    (c.in_ok-end.ensures.step tree first before c.loop-round._round one (omega arith)
    (c.loop-round.invariant.going tree first before one going))

pub loop-round-preserved : goal.loop-round-preserved
loop-round-preserved g c =
    let after =
    device_of (g.O.Sink.contents c.step.new.output) (g.O.Sink.has_failed c.step.new.output) in
    let is : c.in_ok-end.field-0 ≡ None = search rules in
    let same : ◌≡◌ {A = Result (Option LiveEnd) CliError} (Ok c.in_ok-end.field-0) (Ok None) =
    ap (λ (o : Option LiveEnd). Ok o) is in record {
      feeding = c.in_ok-end.ensures.feeding same;
      steady = c.in_ok-end.ensures.steady (ok_unread c.in_ok-end.field-0)
          ∙ c.loop-round.invariant.steady;
      going = λ tree first before one going.
          subst (λ (o : Option LiveEnd). StepsTo tree c.args.plan.now first
          (g.I.Source.remaining c.step.new.input) c.loop-round._round (Ok o) c.step.new.feed
          c.step.new.tape.leaves_open before after) is
          (c.in_ok-end.ensures.step tree first before c.loop-round._round one (omega arith)
          (c.loop-round.invariant.going tree first before one going));
    }
