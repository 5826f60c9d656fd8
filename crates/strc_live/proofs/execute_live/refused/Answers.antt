use Rattle.strc_cli.specs.Executes.{device_of}
use Rattle.strc_cli.specs.declared.answer.Answer.TheVariants as answer
use Rattle.strc_cli_output.specs.declared.stop.Stop.TheVariants as stop
use Rattle.strc_live.proofs.Reports.{refused_so, tells_unread}
use Rattle.strc_live.proofs.execute_live.refused.Goals as goal

pub returns-clause-reported : goal.returns-clause-reported
returns-clause-reported g c text command first left true =
    refused_so text command first left c.args.placed c.tell-result.result c.end_of.result
    (device_of (g.O.Sink.contents c.args.output.now) (g.O.Sink.has_failed c.args.output.now))
    (device_of (g.O.Sink.contents c.tell-result.new.output)
    (g.O.Sink.has_failed c.tell-result.new.output)) c.end_of.ensures true c.tell-result.ensures

pub returns-clause-unread : goal.returns-clause-unread
returns-clause-unread g c =
    tells_unread (answer.Stopped (stop.Refused c.args.placed)) c.tell-result.result
    (device_of (g.O.Sink.contents c.args.output.now) (g.O.Sink.has_failed c.args.output.now))
    (device_of (g.O.Sink.contents c.tell-result.new.output)
    (g.O.Sink.has_failed c.tell-result.new.output)) c.tell-result.ensures
