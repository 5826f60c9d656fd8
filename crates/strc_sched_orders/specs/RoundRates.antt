-- The rates of a graph's channels in one round, for nodes of every kind: all firings are by work
-- (Lee and Messerschmitt 1987: a periodic schedule).
use Rattle.std.specs.Prelude.{◌≡◌, ℕ, Bool, true, false, List, map, slice_get, All}
use Rattle.std.specs.Option.{option_map_or}
use Rattle.strc_elab_graph.specs.Graphs as graphs
use Rattle.strc_elab_graph.specs.Graphs.{NodeCode, Channel, Graph}
use Rattle.strc_elab_graph.specs.Rates.{rate_at_0, pops_at}
use Rattle.strc_elab_graph.specs.declared.graph.Port.{Port}
use Rattle.strc_startup.specs.Rates.{rates_of, rates_of_channel}
use Rattle.strc_startup.specs.declared.channel_rates.ChannelRates.{ChannelRates}

-- how many items a firing takes at an input port: a copy what its filter pops. What is left of its
-- list when the round ends is dropped then, and the channel holds no more after it than before.
abbrev pub pops_in_round : NodeCode → (port : ℕ) → ℕ
pops_in_round (graphs.Copy copied fission) port = rate_at_0 fission.pop port
pops_in_round node port = pops_at node 1 port

abbrev pub round_pop : List NodeCode → Port → ℕ
round_pop nodes port =
    option_map_or (λ node. pops_in_round node port.port) (slice_get nodes port.node) 0

-- the rates of a channel whose target pops so many items with each firing
abbrev pub with_pop : ChannelRates → (pop : ℕ) → ChannelRates
with_pop rates pop = record {
  source = rates.source;
  enqueued = rates.enqueued;
  first_push = rates.first_push;
  push = rates.push;
  target = rates.target;
  prework_window = rates.prework_window;
  first_window = rates.first_window;
  first_pop = rates.first_pop;
  pop = pop;
  window = rates.window;
}

-- the rates of a channel in one round, and those of all channels
abbrev pub round_rates_of_channel : List NodeCode → Channel → ChannelRates
round_rates_of_channel nodes channel =
    with_pop (rates_of_channel nodes channel) (round_pop nodes channel.target)

abbrev pub round_rates_of : Graph → List ChannelRates
round_rates_of graph = map (round_rates_of_channel graph.nodes) graph.channels

-- whether a node is one of several copies of a filter
abbrev pub is_copy : NodeCode → Bool
is_copy (graphs.Copy copied fission) = true
is_copy _ = false

-- in a graph without copies these are the rates of its channels
abbrev pub RoundRatesAreRates : Type 0
RoundRatesAreRates =
    (graph : Graph) → All (λ node. is_copy node ≡ false) graph.nodes
    → round_rates_of graph ≡ rates_of graph
