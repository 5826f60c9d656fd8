-- An order of a tree's flat graph is one of the flat graph by channels.
use Rattle.std.proofs.Common.{◌≡◌, refl, sym, ap, ◌∙◌, subst, ℕ, zero, suc, ◌+◌, ◌<◌, ◌≤◌, arith}
use Rattle.std.proofs.Common.{ℤ, List, [], ◌∷◌, length, get_or, true, false, slice_get, Some}
use Rattle.std.proofs.Common.{◌⊎◌, inl, inr, Option}
use Rattle.std.specs.Option.{option_map_or}
use Rattle.std.proofs.lemmas.Option.{slice_get-get_or}
use Rattle.strc_elab_dataflow.specs.Flat.{Origin, Origin.Nowhere, Origin.Input, Origin.Port, Source}
use Rattle.strc_elab_dataflow.specs.Flat as flat
use Rattle.strc_elab_dataflow.specs.Laws.{IsIdle}
use Rattle.strc_elab_dataflow.specs.Node.{Meaning, total}
use Rattle.strc_elab_dataflow.specs.Order as orders
use Rattle.strc_elab_dataflow.specs.Streams.{Stream, any_code}
use Rattle.strc_elab_dataflow.specs.Streams as trees
use Rattle.strc_elab_graph.specs.Carriers.{carries_in, takes_at, JoinsCarriers}
use Rattle.strc_elab_graph.specs.Graphs.{NodeCode, Graph, Channel, reads_input}
use Rattle.strc_elab_graph.specs.FlatGraphs.{IsProgram, IsFlat}
use Rattle.strc_elab_graph.specs.Meaning.{node_meaning, ports_in}
use Rattle.strc_elab_graph.proofs.Idle.{same_or_idle}
use Rattle.strc_elab_graph.proofs.Carriers.{carrier_reads}
use Rattle.strc_sched_orders.proofs.FiringCounts.{turns_same}
use Rattle.strc_sched_laws.proofs.Orders.{AreNodes, is_reader}
use Rattle.strc_stage_plan.specs.Sources.{flat_graph, source_at, takes_input, EndApart}
use Rattle.strc_stage_plan.proofs.Splits.{at_reader, at_other}

module _ {Code State Cause Word : Type 0} (meaning : Meaning Code State Cause Word) (code : Code)
    (port : ℕ) (idle : IsIdle meaning code port) where
  none_taken : (n : ℕ) → total (meaning.popped code) n port ≡ 0
  unfolding total
  none_taken zero = refl
  none_taken (suc n) = omega (arith, none_taken n, (idle n).1)

module _ {Code State Cause Word : Type 0} (meaning : Meaning Code State Cause Word)
    (a b : flat.Graph Code) (input : List ℤ)
    (codes : (node : ℕ) → a.code node ≡ b.code node) where
  supply_same : (counts : ℕ → ℕ) (origin : Origin)
      → orders.supply_of meaning a input counts origin
      ≡ orders.supply_of meaning b input counts origin
  unfolding orders.supply_of
  supply_same counts Nowhere = refl
  supply_same counts Input = refl
  supply_same counts (Port node port) =
      ap (λ (c : Code). total (meaning.pushed c) (counts node) port) (codes node)

  -- a node finds its windows in both graphs, where its ports have the same sources or are idle
  ready_same : (counts : ℕ → ℕ) (node : ℕ)
      → ((port : ℕ) → port < meaning.ports (b.code node)
      → (a.source node port ≡ b.source node port) ⊎ IsIdle meaning (b.code node) port)
      → orders.IsReady meaning a input counts node → orders.IsReady meaning b input counts node
  unfolding orders.supply
  ready_same counts node sources ready port less = elim (sources port less) [
    | inl same ↦
        let there : port < meaning.ports (a.code node) =
        subst (λ (c : Code). port < meaning.ports c) (sym (codes node)) less in
        let found : total (meaning.popped (b.code node)) (counts node) port
        + meaning.window (b.code node) (counts node) port
        ≤ length (a.source node port).enqueued
        + orders.supply_of meaning a input counts (a.source node port).origin =
        subst (λ (c : Code). total (meaning.popped c) (counts node) port
        + meaning.window c (counts node) port
        ≤ length (a.source node port).enqueued
        + orders.supply_of meaning a input counts (a.source node port).origin)
        (codes node) (ready port there) in
        omega (
          arith,
          found,
          ap (λ (s : Source). length s.enqueued) same,
          ap (λ (s : Source). orders.supply_of meaning a input counts s.origin) same,
          supply_same counts (b.source node port).origin,
        )
    | inr idle ↦ omega (
      arith,
      none_taken meaning (b.code node) port idle (counts node),
      (idle (counts node)).0,
    )
  ]

module _ (tree : Stream NodeCode) (graph : Graph) (is : IsFlat tree graph) where
  -- no two channels of a tree's graph end at one port
  pub ends_apart : EndApart graph
  ends_apart = λ k other less.
      let channel : Channel = get_or graph.channels k other in
      let joins : JoinsCarriers graph.nodes channel = is.joined k other less in
      is.sources channel.target.node channel.target.port joins.target ∙ is.channels k other less

  pub codes_same : (node : ℕ)
      → (trees.flat tree).code node ≡ (flat_graph (any_code tree) graph).code node
  unfolding trees.flat
  codes_same node = ap (λ (l : List NodeCode). get_or l node (any_code tree)) (sym is.nodes)

module _ (tree : Stream NodeCode) (graph : Graph) (program : IsProgram tree graph) where
  -- what comes to a port that carries items, and to a reader
  carried_same : (node port : ℕ) (code : NodeCode) → slice_get graph.nodes node ≡ Some code
      → carries_in code port ≡ true
      → (trees.flat tree).source node port ≡ source_at graph node port
  carried_same node port code there carries =
      let takes : takes_at graph.nodes node port ≡ true =
      ap (λ (o : Option NodeCode). option_map_or (λ c. carries_in c port) o false) there
      ∙ carries in
      sym (at_other graph node port (ap takes_input there ∙ carrier_reads code port carries)
      ∙ program.flat.sources node port takes)

  read_same : (node : ℕ) (code : NodeCode) → slice_get graph.nodes node ≡ Some code
      → reads_input code ≡ true
      → (trees.flat tree).source node 0 ≡ source_at graph node 0
  read_same node code there reads =
      let reader = is_reader code reads in
      program.inputs node reader.0 (there ∙ ap Some reader.1)
      ∙ sym (at_reader graph node 0 (ap takes_input there ∙ reads))

  pub sources_same : (node : ℕ) → node < length graph.nodes → (port : ℕ)
      → port < ports_in (get_or graph.nodes node (any_code tree))
      → ((trees.flat tree).source node port ≡ source_at graph node port)
      ⊎ IsIdle node_meaning (get_or graph.nodes node (any_code tree)) port
  sources_same node inside port less =
      let code : NodeCode = get_or graph.nodes node (any_code tree) in
      let there = slice_get-get_or graph.nodes node (any_code tree) inside in
      same_or_idle code port ((trees.flat tree).source node) (source_at graph node) less
      (carried_same node port code there) (read_same node code there)

  pub channel_order : (input : List ℤ) (counts : ℕ → ℕ) (order : List ℕ) → AreNodes graph order
      → orders.IsOrder node_meaning (trees.flat tree) input counts order
      → orders.IsOrder node_meaning (flat_graph (any_code tree) graph) input counts order
  channel_order input counts [] nodes is = tt
  channel_order input counts (node ∷ order) nodes (ready, later) =
      let once = turns_same 1 node node refl in (
        ready_same node_meaning (trees.flat tree) (flat_graph (any_code tree) graph) input
            (codes_same tree graph program.flat) counts node
            (sources_same node (nodes node (omega (arith, once)))) ready,
        channel_order input (orders.raised counts node) order
            (λ other some. nodes other (omega (arith, some))) later,
      )
