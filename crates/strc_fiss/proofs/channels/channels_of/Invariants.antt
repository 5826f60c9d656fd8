use Rattle.std.proofs.Common.{◌≡◌, ◌++◌, map}
use Rattle.strc_elab_graph.specs.NodeView.{channel_view}
use Rattle.strc_fiss.specs.Splitting as spec
use Rattle.strc_fiss.specs.WireView.{wire_view}
use Rattle.strc_fiss.proofs.channels.channels_of.Given as goal

abbrev pub invariant-loop-wire : goal.invariant-loop-wire
invariant-loop-wire l =
    map channel_view l.channels.items
    ++ map (λ (wire : spec.Wire). wire.channel) (map wire_view l.wire-iterator.rest.items)
    ≡ map (λ (wire : spec.Wire). wire.channel) (map wire_view l.fn.wires.items)
