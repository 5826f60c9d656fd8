-- The ends of a graph's equations are its nodes.
use Rattle.std.proofs.Common.{◌≡◌, ℕ, ◌<◌, List, [], length, get_or, sym, ap, subst, inl, inr}
use Rattle.std.proofs.Common.{arith}
use Rattle.std.specs.List.{All}
use Rattle.std.specs.Option.{option_map_or}
use Rattle.std.proofs.lemmas.Bool.{cases_lt}
use Rattle.std.proofs.lemmas.List.{get_or-map, length-map}
use Rattle.std.proofs.lemmas.Option.{slice_get_past}
use Rattle.strc_elab_graph.specs.Graphs.{NodeCode, Channel, Graph, JoinsPorts, IsGraph, inputs_at}
use Rattle.strc_elab_graph.specs.Graphs.{outputs_at, input_ports, output_ports}
use Rattle.strc_balance.specs.Balance.{HasRates}
use Rattle.strc_balance.specs.Rates.{IsRated, equation_of, equations_of, size_of}

pub source_within : (nodes : List NodeCode) (node port : ℕ) → port < outputs_at nodes node
    → node < length nodes
source_within nodes node port h =
    elim (cases_lt node (length nodes)) [
      | inl within ↦ within
      | inr past ↦ let none : outputs_at nodes node ≡ 0 =
          ap (λ o. option_map_or output_ports o 0) (slice_get_past nodes node past) in
          absurd (omega arith)
    ]

pub target_within : (nodes : List NodeCode) (node port : ℕ) → port < inputs_at nodes node
    → node < length nodes
target_within nodes node port h =
    elim (cases_lt node (length nodes)) [
      | inl within ↦ within
      | inr past ↦ let none : inputs_at nodes node ≡ 0 =
          ap (λ o. option_map_or input_ports o 0) (slice_get_past nodes node past) in
          absurd (omega arith)
    ]

equation_rates : (nodes : List NodeCode) (channel : Channel) → JoinsPorts nodes channel
    → IsRated (equation_of nodes channel) → HasRates (length nodes) (equation_of nodes channel)
equation_rates nodes channel joins rated = record {
  source = source_within nodes channel.source.node channel.source.port joins.source;
  target = target_within nodes channel.target.node channel.target.port joins.target;
  push = rated.push;
  pop = rated.pop;
}

pub graph_rates : (graph : Graph) → IsGraph graph → All IsRated (equations_of graph)
    → All (HasRates (size_of graph)) (equations_of graph)
graph_rates graph is rated k d within =
    let nodes = graph.nodes in
    let nowhere : Channel = record {
      source = record { node = 0; port = 0 };
      target =
          record { node = 0; port = 0 };
      enqueued = [];
    } in
    let channel = get_or graph.channels k nowhere in
    let same_length : length (equations_of graph) ≡ length graph.channels =
    length-map graph.channels (equation_of nodes) in
    let in_channels : k < length graph.channels = omega arith in
    let same : get_or (equations_of graph) k d ≡ equation_of nodes channel =
    get_or-map (equation_of nodes) graph.channels k nowhere d in_channels in
    subst (HasRates (length nodes)) (sym same)
    (equation_rates nodes channel (is.channels k nowhere in_channels)
    (subst IsRated same (rated k d within)))
