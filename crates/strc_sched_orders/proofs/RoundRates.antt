-- The rates of a graph's channels in one round.
use Rattle.std.proofs.Common.{◌≡◌, refl, sym, ap, subst, ℕ, ◌<◌, List, [], ◌∷◌, ◌∙◌}
use Rattle.std.proofs.Common.{length, map, get_or, All, Option, Some, None, slice_get, false, arith}
use Rattle.std.proofs.lemmas.Option.{same_Some, slice_get-get_or, slice_get_within}
use Rattle.std.specs.Option.{option_map_or}
use Rattle.std.proofs.lemmas.List.{get_or-map, length-map}
use Rattle.strc_elab_graph.specs.Graphs as graphs
use Rattle.strc_elab_graph.specs.Graphs.{NodeCode, Channel, Graph, IsGraph}
use Rattle.strc_elab_graph.specs.Rates.{pops_at}
use Rattle.strc_startup.specs.Rates.{rates_of, rates_of_channel}
use Rattle.strc_startup.specs.Waiting.{HasEnds}
use Rattle.strc_startup.proofs.Bounds.{graph_ends}
use Rattle.strc_sched_orders.specs.RoundRates.{pops_in_round, round_rates_of_channel}
use Rattle.strc_sched_orders.specs.RoundRates.{round_rates_of, with_pop, is_copy}
use Rattle.strc_sched_orders.specs.RoundRates.{RoundRatesAreRates}
use Rattle.strc_sched_orders.specs.Sizing.{round_rates_on}
use Rattle.strc_sched_orders.proofs.Continuing.{ends_on}

pub round_length : (graph : Graph) → length (round_rates_of graph) ≡ length graph.channels
round_length graph = length-map graph.channels (round_rates_of_channel graph.nodes)

-- the ends of channels are nodes
ends_alike : (graph : Graph) → All (HasEnds (length graph.nodes)) (rates_of graph)
    → All (HasEnds (length graph.nodes)) (round_rates_of graph)
ends_alike graph all k d within =
    let short : k < length graph.channels = omega (arith, within, round_length graph) in
    let there : k < length (rates_of graph) =
    omega (arith, short, length-map graph.channels (rates_of_channel graph.nodes)) in
    let channel = get_or graph.channels k nowhere in
    let own = subst (HasEnds (length graph.nodes))
    (get_or-map (rates_of_channel graph.nodes) graph.channels k nowhere d short)
    (all k d there) in
    subst (HasEnds (length graph.nodes))
    (sym (get_or-map (round_rates_of_channel graph.nodes) graph.channels k nowhere d short))
    (record { source = own.source; target = own.target })
  where
    nowhere : Channel
    nowhere = record {
      source = record { node = 0; port = 0 };
      target = record { node = 0; port = 0 };
      enqueued = [];
    }

pub round_ends : (graph : Graph) (fills : List ℕ) → IsGraph graph
    → All (HasEnds (length graph.nodes)) (round_rates_on graph fills)
round_ends graph fills is =
    ends_on (length graph.nodes) (round_rates_of graph) fills
    (ends_alike graph (graph_ends graph is))

-- only copies pop in a round what they don't pop with any later firing
pops_alike : (node : NodeCode) (port : ℕ) → is_copy node ≡ false
    → pops_in_round node port ≡ pops_at node 1 port
pops_alike (graphs.Filter name filter) port other = refl
pops_alike graphs.Identity port other = refl
pops_alike (graphs.FileReader text) port other = refl
pops_alike (graphs.FileWriter text) port other = refl
pops_alike (graphs.Splitter splitter) port other = refl
pops_alike (graphs.Joiner weights) port other = refl
pops_alike (graphs.Scatter fission) port other = refl
pops_alike (graphs.Copy copied fission) port other = absurd cc
pops_alike (graphs.Gather fission) port other = refl

-- what holds of all nodes holds of one
other_there : (nodes : List NodeCode) (number : ℕ) (node : NodeCode)
    → All (λ node. is_copy node ≡ false) nodes → slice_get nodes number ≡ Some node
    → is_copy node ≡ false
other_there nodes number node others there =
    let within = slice_get_within nodes number node there in
    ap is_copy (same_Some node (get_or nodes number node)
    (sym there ∙ slice_get-get_or nodes number node within))
    ∙ others number node within

found_alike : (found : Option NodeCode) (port : ℕ)
    → ((node : NodeCode) → found ≡ Some node → is_copy node ≡ false)
    → option_map_or (λ node. pops_in_round node port) found 0
    ≡ option_map_or (λ node. pops_at node 1 port) found 0
found_alike None port other = refl
found_alike (Some node) port other = pops_alike node port (other node refl)

channel_alike : (nodes : List NodeCode) → All (λ node. is_copy node ≡ false) nodes
    → (channel : Channel) → round_rates_of_channel nodes channel ≡ rates_of_channel nodes channel
channel_alike nodes others channel =
    ap (with_pop (rates_of_channel nodes channel))
    (found_alike (slice_get nodes channel.target.node) channel.target.port
    (λ node there. other_there nodes channel.target.node node others there))

all_alike : (nodes : List NodeCode) → All (λ node. is_copy node ≡ false) nodes
    → (channels : List Channel)
    → map (round_rates_of_channel nodes) channels ≡ map (rates_of_channel nodes) channels
all_alike nodes others [] = refl
all_alike nodes others (channel ∷ channels) =
    ap (λ r. r ∷ map (round_rates_of_channel nodes) channels) (channel_alike nodes others channel)
    ∙ ap (λ l. rates_of_channel nodes channel ∷ l) (all_alike nodes others channels)

pub round_rates_are_rates : RoundRatesAreRates
round_rates_are_rates graph others = all_alike graph.nodes others graph.channels
