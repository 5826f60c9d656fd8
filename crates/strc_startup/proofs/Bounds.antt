-- The ends of a graph's channels are its nodes, and their sources push.
use Rattle.std.proofs.Common.{◌≡◌, refl, ℕ, zero, suc, ◌<◌, ◌≤◌, Bool, true, false, List, [], ◌∷◌}
use Rattle.std.proofs.Common.{length}
use Rattle.std.proofs.Common.{get_or, map, sym, ap}
use Rattle.std.proofs.Common.{subst, arith, Option, Some, None, slice_get, cond}
use Rattle.std.specs.List.{All}
use Rattle.std.specs.Option.{option_map_or}
use Rattle.std.proofs.lemmas.List.{get_or-map, length-map}
use Rattle.strc_elab_graph.specs.Graphs.{NodeCode, Channel, Graph, IsGraph}
use Rattle.strc_elab_graph.specs.Rates.{pushes_at}
use Rattle.strc_balance.specs.Balance.{count_at, IsWithinLimit}
use Rattle.strc_balance.specs.Rates.{IsRated, equation_of, equations_of, pushes_by_work}
use Rattle.strc_balance.specs.Rates.{fires_by_rounds, size_of}
use Rattle.strc_balance.proofs.Rated.{source_within, target_within}
use Rattle.strc_startup.specs.Rates.{rates_of, rates_of_channel, first_count, has_prework}
use Rattle.strc_startup.specs.Waiting.{HasEnds, Pushes}
use Rattle.strc_startup.specs.declared.channel_rates.ChannelRates.{ChannelRates}

-- a node that pushes by work pushes so with each firing after the first one
by_work : (node : NodeCode) (port : ℕ) (rounds : Bool) → fires_by_rounds node ≡ rounds
    → 0 < pushes_by_work node port → 0 < pushes_at node 1 port
by_work node port rounds is h = by_value rounds is
  where
    by_value : (test : Bool) → fires_by_rounds node ≡ test → 0 < pushes_at node 1 port
    by_value true e =
        let none : pushes_by_work node port ≡ 0 = ap (λ t. cond t 0 (pushes_at node 1 port)) e in
        absurd (omega arith)
    by_value false e =
        let same : pushes_by_work node port ≡ pushes_at node 1 port =
        ap (λ t. cond t 0 (pushes_at node 1 port)) e in
        omega arith

found_pushes : (found : Option NodeCode) (port : ℕ)
    → 0 < option_map_or (λ node. pushes_by_work node port) found 0
    → 0 < option_map_or (λ node. pushes_at node 1 port) found 0
found_pushes None port h = h
found_pushes (Some node) port h = by_work node port (fires_by_rounds node) refl h

abbrev nowhere : Channel
nowhere = record {
  source = record { node = 0; port = 0 };
  target = record { node = 0; port = 0 };
  enqueued = [];
}

module _ (graph : Graph) where
  same_rates : (k : ℕ) (d : ChannelRates) → k < length graph.channels
      → get_or (rates_of graph) k d ≡ rates_of_channel graph.nodes (get_or graph.channels k nowhere)
  same_rates k d within =
      get_or-map (rates_of_channel graph.nodes) graph.channels k nowhere d within

  all_lengths : (k : ℕ) → k < length (rates_of graph) → k < length graph.channels
  all_lengths k within = omega (arith, length-map graph.channels (rates_of_channel graph.nodes))

  pub graph_ends : IsGraph graph → All (HasEnds (size_of graph)) (rates_of graph)
  graph_ends is k d within =
      let short = all_lengths k within in
      let channel = get_or graph.channels k nowhere in
      let joins = is.channels k nowhere short in
      subst (HasEnds (size_of graph)) (sym (same_rates k d short)) (record {
        source = source_within graph.nodes channel.source.node channel.source.port joins.source;
        target = target_within graph.nodes channel.target.node channel.target.port joins.target;
      })

  pub graph_pushes : All IsRated (equations_of graph) → All Pushes (rates_of graph)
  graph_pushes rated k d within =
      let short = all_lengths k within in
      let channel = get_or graph.channels k nowhere in
      let there : k < length (equations_of graph) =
      omega (arith, short, length-map graph.channels (equation_of graph.nodes)) in
      let e = equation_of graph.nodes channel in
      let same = get_or-map (equation_of graph.nodes) graph.channels k nowhere e short in
      let own : IsRated e = subst IsRated same (rated k e there) in
      subst Pushes (sym (same_rates k d short))
      (found_pushes (slice_get graph.nodes channel.source.node) channel.source.port own.push)

-- a prework fires once
one_at_most : (node : NodeCode) → first_count node ≤ 1
one_at_most node = by_value (has_prework node) refl
  where
    by_value : (test : Bool) → has_prework node ≡ test → first_count node ≤ 1
    by_value true e =
        let one : first_count node ≡ 1 = ap (λ t. cond t 1 0) e in
        omega (arith, one)
    by_value false e =
        let none : first_count node ≡ 0 = ap (λ t. cond t 1 0) e in
        omega (arith, none)

first_at : (nodes : List NodeCode) (node : ℕ) → count_at (map first_count nodes) node ≤ 1
first_at [] node = omega arith
first_at (first ∷ rest) zero = one_at_most first
first_at (first ∷ rest) (suc node) = first_at rest node

pub first_within : (nodes : List NodeCode) → IsWithinLimit (map first_count nodes)
first_within nodes node = omega (arith, first_at nodes node)
