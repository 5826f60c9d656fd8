use Rattle.std.proofs.Common.{Result}
use Rattle.strc_cli.specs.Executes.{device_of}
use Rattle.strc_cli.specs.declared.execute.CliError.{CliError}
use Rattle.strc_live.specs.Ends.{TellsEnd}
use Rattle.strc_live.specs.declared.ends.ToldEnd.{ToldEnd}
use Rattle.strc_live.proofs.Reports.{passed_on, told_closed, told_unclosed}
use Rattle.strc_live.proofs.ends.tell_end.Goals as goal

pub returns-in_err-close_line : goal.returns-in_err-close_line
returns-in_err-close_line g c =
    passed_on (λ (r : Result ToldEnd CliError). TellsEnd c.args.leaves_open c.args.end r
    (device_of (g.O.Sink.contents c.args.output.now) (g.O.Sink.has_failed c.args.output.now))
    (device_of (g.O.Sink.contents c.close_line.new.output)
    (g.O.Sink.has_failed c.close_line.new.output))) c.from_residual.result
    c.in_err-close_line.field-0.0 c.from_residual.ensures.1
    (told_unclosed c.args.leaves_open c.args.end c.in_default.not-Done
    (device_of (g.O.Sink.contents c.args.output.now) (g.O.Sink.has_failed c.args.output.now))
    (device_of (g.O.Sink.contents c.close_line.new.output)
    (g.O.Sink.has_failed c.close_line.new.output)) c.in_err-close_line.field-0.0
    c.in_err-close_line.ensures)

pub returns : goal.returns
returns g c =
    told_closed c.args.leaves_open c.args.end c.in_default.not-Done
    (device_of (g.O.Sink.contents c.args.output.now) (g.O.Sink.has_failed c.args.output.now))
    (device_of (g.O.Sink.contents c.close_line.new.output)
    (g.O.Sink.has_failed c.close_line.new.output))
    (device_of (g.O.Sink.contents c.tell_line.new.output)
    (g.O.Sink.has_failed c.tell_line.new.output))
    c.in_ok-close_line.ensures c.tell_line.result c.tell_line.ensures
