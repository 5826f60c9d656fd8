use Rattle.std.proofs.Common.{◌≡◌, take, map, All}
use Rattle.strc_elab_graph.specs.NodeView.{node_view, channel_view}
use Rattle.strc_balance.specs.Rates as spec
use Rattle.strc_balance.specs.Frontiers.{IsBounded}
use Rattle.strc_balance.proofs.rates.equations_of.Given as goal

abbrev pub invariant-loop-channel : goal.invariant-loop-channel
invariant-loop-channel l = record {
  equations : l.equations.items ≡ map (spec.equation_of (map node_view l.nodes))
      (map channel_view (take l.channel-index l.channels));
  bounds : All IsBounded l.equations.items;
}
