use Rattle.std.proofs.Common.{length}
use Rattle.strc_cli.specs.Executes.{device_of}
use Rattle.strc_cli.proofs.Telling.{Gone}
use Rattle.strc_cli.proofs.execute.write_all.Given as goal

abbrev pub invariant-loop-rest : goal.invariant-loop-rest
invariant-loop-rest g l = Gone l.fn.bytes l.rest
    (device_of (g.O.Sink.contents l.fn.output) (g.O.Sink.has_failed l.fn.output))
    (device_of (g.O.Sink.contents l.output) (g.O.Sink.has_failed l.output))

abbrev pub decreases-loop-rest : goal.decreases-loop-rest
decreases-loop-rest g l = length l.rest
