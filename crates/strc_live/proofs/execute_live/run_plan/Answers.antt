use Rattle.std.proofs.Common.{sym, ◌∙◌}
use Rattle.strc_elab_stream.specs.Flattening.{tree_of}
use Rattle.strc_cli.specs.Executes.{device_of}
use Rattle.strc_cli.specs.declared.execute.CliError.TheVariants as error
use Rattle.strc_live.proofs.Reports.{end_of_status, ended_so, failed_so, report_unread}
use Rattle.strc_live.proofs.Reports.{status_of_end}
use Rattle.strc_live.proofs.execute_live.run_plan.Goals as goal

pub returns-in-Ok-clause-reported : goal.returns-in-Ok-clause-reported
returns-in-Ok-clause-reported g c text is =
    ended_so text c.args.command.now c.args.plan is (g.I.Source.remaining c.args.input.now)
    (g.I.Source.remaining c.run_fit.new.input) c.in-Ok.end c.run_fit.new.tape.leaves_open
    (device_of (g.O.Sink.contents c.args.output.now) (g.O.Sink.has_failed c.args.output.now))
    (device_of (g.O.Sink.contents c.run_fit.new.output) (g.O.Sink.has_failed c.run_fit.new.output))
    (device_of (g.O.Sink.contents c.tell_end.new.output)
    (g.O.Sink.has_failed c.tell_end.new.output))
    (c.in-Ok.ensures.answers (tree_of is.accepted.stream) is.whole) c.tell_end.result
    c.tell_end.ensures c.report.result c.report.ensures

pub returns-in-Ok-clause-failed : goal.returns-in-Ok-clause-failed
returns-in-Ok-clause-failed g c failed =
    absurd (report_unread c.run_fit.new.tape.leaves_open c.in-Ok.end c.tell_end.result
    (device_of (g.O.Sink.contents c.run_fit.new.output) (g.O.Sink.has_failed c.run_fit.new.output))
    (device_of (g.O.Sink.contents c.tell_end.new.output)
    (g.O.Sink.has_failed c.tell_end.new.output)) c.report.result c.tell_end.ensures
    c.report.ensures failed)

pub returns-clause-reported : goal.returns-clause-reported
returns-clause-reported g c text is =
    failed_so text c.args.command.now c.args.plan is (g.I.Source.remaining c.args.input.now)
    (g.I.Source.remaining c.run_fit.new.input) c.in-Err.failure c.run_fit.new.tape.leaves_open
    (device_of (g.O.Sink.contents c.args.output.now) (g.O.Sink.has_failed c.args.output.now))
    (device_of (g.O.Sink.contents c.run_fit.new.output) (g.O.Sink.has_failed c.run_fit.new.output))
    (c.in-Err.ensures.answers (tree_of is.accepted.stream) is.whole) c.report-in-Err.result
    c.report-in-Err.ensures

pub returns-clause-failed : goal.returns-clause-failed
returns-clause-failed g c failed =
    c.in-Err.ensures.failed (end_of_status c.in-Err.failure error.Read
    (sym c.report-in-Err.ensures ∙ failed))

pub returns-clause-steady : goal.returns-clause-steady
returns-clause-steady g c read =
    c.in-Err.ensures.steady (λ failed. read (c.report-in-Err.ensures
    ∙ status_of_end c.in-Err.failure error.Read failed))
