use Rattle.std.proofs.Common.{inl, refl}
use Rattle.strc_cli.specs.Executes.{device_of}
use Rattle.strc_live.specs.declared.ends.LiveEnd.TheVariants as end
use Rattle.strc_live.proofs.Reports.{memory_told}
use Rattle.strc_live.proofs.ends.tell_stop.Goals as goal

pub returns-in-Err-Memory : goal.returns-in-Err-Memory
returns-in-Err-Memory g c =
    memory_told (end.Stopped c.args.stop)
    (device_of (g.O.Sink.contents c.args.output.now) (g.O.Sink.has_failed c.args.output.now))
    (device_of (g.O.Sink.contents c.tell.new.output) (g.O.Sink.has_failed c.tell.new.output))
    (device_of (g.O.Sink.contents c.tell_no_memory.new.output)
    (g.O.Sink.has_failed c.tell_no_memory.new.output)) c.tell_no_memory.result
    (rw c.in-Err-Memory.field-0-is at c.in-Err-Memory.ensures) c.tell_no_memory.ensures

pub returns : goal.returns
returns g c = (
  end.Stopped c.args.stop,
  inl refl,
  rw c.in-Err-Write.field-0-is at c.in-Err-Write.ensures,
)
