-- Where items go, as contracts speak of it.
use Rattle.strc_elab_flattening.specs.declared.channels.Target.{Target}
use Rattle.strc_elab_stream.specs.Wires as wires

-- a target, by the items that are before what comes
abbrev pub target_view : Target → wires.Target
target_view target = record { port = target.port; enqueued = target.enqueued.now }
