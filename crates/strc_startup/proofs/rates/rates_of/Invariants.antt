use Rattle.std.proofs.Common.{◌≡◌, take, map, All}
use Rattle.strc_elab_graph.specs.NodeView.{node_view, channel_view}
use Rattle.strc_startup.specs.Rates as spec
use Rattle.strc_startup.specs.Waiting.{IsBounded}
use Rattle.strc_startup.proofs.rates.rates_of.Given as goal

abbrev pub invariant-loop-channel : goal.invariant-loop-channel
invariant-loop-channel l = record {
  rates : l.rates.items ≡ map (spec.rates_of_channel (map node_view l.nodes))
      (map channel_view (take l.channel-index l.channels));
  bounds : All IsBounded l.rates.items;
}
