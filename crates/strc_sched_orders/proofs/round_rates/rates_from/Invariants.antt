use Rattle.std.proofs.Common.{◌≡◌, take, map, All}
use Rattle.strc_elab_graph.specs.NodeView.{node_view, channel_view}
use Rattle.strc_startup.specs.Waiting.{IsBounded}
use Rattle.strc_sched_orders.specs.RoundRates.{round_rates_of_channel}
use Rattle.strc_sched_orders.specs.Sizing.{all_rates_on}
use Rattle.strc_sched_orders.proofs.round_rates.rates_from.Given as goal

abbrev pub invariant-loop-channel : goal.invariant-loop-channel
invariant-loop-channel l = record {
  rates : l.rates.items ≡ take l.channel (all_rates_on
      (map (round_rates_of_channel (map node_view l.nodes)) (map channel_view l.channels)) l.fill);
  bounds : All IsBounded l.rates.items;
}
