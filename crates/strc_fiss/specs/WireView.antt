-- Declared channels with what they hold, as contracts speak of them.
use Rattle.std.specs.Prelude.{List, Vec, map}
use Rattle.std.specs.Global.{Global}
use Rattle.strc_elab_graph.specs.NodeView.{channel_view}
use Rattle.strc_fiss.specs.Splitting as spec
use Rattle.strc_fiss.specs.declared.channels.Wire.{Wire}

abbrev pub wire_view : Wire → spec.Wire
wire_view wire = record {
  channel = channel_view wire.channel;
  greatest = wire.greatest;
  last = wire.last;
}

abbrev pub group_view : Vec Wire Global → List spec.Wire
group_view wires = map wire_view wires.items
