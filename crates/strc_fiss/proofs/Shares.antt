-- How the firings of a graph's nodes are dealt.
use Rattle.std.proofs.Common.{◌≡◌, sym, ap, ◌∙◌, subst, ℕ, ◌+◌, ◌<◌, ◌≤◌, arith}
use Rattle.std.proofs.Common.{List, [], ◌∷◌, ◌++◌, length, map, get_or, slice_get, All}
use Rattle.std.proofs.Common.{cond, ◌&&◌, not, inl, inr, Option}
use Rattle.std.specs.Prelude.{nat_lt}
use Rattle.std.specs.Option.{option_map_or}
use Rattle.std.proofs.lemmas.Bool.{cases_lt}
use Rattle.std.proofs.lemmas.List.{get_or-map, length-map, get_or_past, get_or_append_left}
use Rattle.std.proofs.lemmas.List.{get_or_push}
use Rattle.std.proofs.lemmas.Option.{slice_get_cases}
use Rattle.strc_balance.specs.Balance.{count_at}
use Rattle.strc_fuse.specs.Units.{is_outside}
use Rattle.strc_elab_graph.specs.Graphs.{IsGraph, NodeCode, Channel, outputs_at}
use Rattle.strc_elab_graph.specs.Graphs.{inputs_at, output_ports, input_ports}
use Rattle.strc_elab_graph.specs.NodeView.{GraphParts, graph_view, node_view, channel_view}
use Rattle.strc_elab_graph.specs.declared.graph.Channel as declared_channel
use Rattle.strc_elab_graph.specs.declared.graph.Fission.{Fission}
use Rattle.strc_fiss.specs.Ways.{whole, is_alike, feeds_itself, greatest_divisor, dealt, fission_of}

-- a node with a port is there
pub there_by : (ports : NodeCode → ℕ) (nodes : List NodeCode) (node port : ℕ)
    → port < option_map_or ports (slice_get nodes node) 0 → node < length nodes
there_by ports nodes node port less = elim (slice_get_cases nodes node).1 [
  | inl there ↦ there.1
  | inr past ↦ absurd (let none : option_map_or ports (slice_get nodes node) 0 ≡ 0 =
      ap (λ (o : Option NodeCode). option_map_or ports o 0) past.1 in omega (arith, less, none))
]

-- each channel leaves a node that is there
pub sources_there : (graph : GraphParts) → IsGraph (graph_view graph)
    → All (λ (channel : declared_channel.Channel). channel.source.node < length graph.nodes)
    graph.channels
sources_there graph is k d less =
    let channels = graph.channels in
    let many = length-map channels channel_view in
    let joins = is.channels k (channel_view d) (omega (arith, less, many)) in
    let e = get_or-map channel_view channels k d (channel_view d) less in
    let there = there_by output_ports (map node_view graph.nodes)
    (channel_view (get_or channels k d)).source.node
    (channel_view (get_or channels k d)).source.port
    (subst (λ (c : Channel). c.source.port < outputs_at (map node_view graph.nodes) c.source.node)
    e joins.source) in
    omega (arith, there, length-map graph.nodes node_view)

-- and ends at one
pub targets_there : (graph : GraphParts) → IsGraph (graph_view graph)
    → All (λ (channel : declared_channel.Channel). channel.target.node < length graph.nodes)
    graph.channels
targets_there graph is k d less =
    let channels = graph.channels in
    let many = length-map channels channel_view in
    let joins = is.channels k (channel_view d) (omega (arith, less, many)) in
    let e = get_or-map channel_view channels k d (channel_view d) less in
    let there = there_by input_ports (map node_view graph.nodes)
    (channel_view (get_or channels k d)).target.node
    (channel_view (get_or channels k d)).target.port
    (subst (λ (c : Channel). c.target.port < inputs_at (map node_view graph.nodes) c.target.node)
    e joins.target) in
    omega (arith, there, length-map graph.nodes node_view)

-- so does one that was read
pub ends_there : (graph : GraphParts) (channels : List declared_channel.Channel) (k : ℕ)
    (channel : declared_channel.Channel)
    → IsGraph (graph_view graph) → channels ≡ graph.channels → k < length channels
    → channel ≡ get_or channels k channel
    → (channel.source.node < length graph.nodes) × (channel.target.node < length graph.nodes)
ends_there graph channels k channel is read less e =
    let same : channel ≡ get_or graph.channels k channel =
    e ∙ ap (λ (l : List declared_channel.Channel). get_or l k channel) read in
    let within : k < length graph.channels = omega (arith, less, ap length read) in (
      subst (λ (c : declared_channel.Channel). c.source.node < length graph.nodes) (sym same)
          (sources_there graph is k channel within),
      subst (λ (c : declared_channel.Channel). c.target.node < length graph.nodes) (sym same)
          (targets_there graph is k channel within),
    )

-- past the last node
past_share : (graph : GraphParts) (round : List ℕ) (ways node : ℕ) → length graph.nodes ≤ node
    → fission_of (graph_view graph) round ways node ≡ whole
past_share graph round ways node past = elim (slice_get_cases (map node_view graph.nodes) node).1 [
  | inl there ↦ absurd (omega (arith, there.1, past, length-map graph.nodes node_view))
  | inr none ↦ ap (λ (o : Option NodeCode). dealt o (count_at round node)
      (cond ((is_alike o && (is_outside (slice_get graph.outer_loops node)
      && not (feeds_itself (map channel_view graph.channels) node)))
      && nat_lt 0 (count_at round node))
      (greatest_divisor (count_at round node) ways) 1)) none.1
]

module _ (graph : GraphParts) (round : List ℕ) (ways : ℕ) where
  -- so many nodes have their shares
  abbrev pub AreShares : (shares : List Fission) → (count : ℕ) → Type 0
  AreShares shares count =
      (length shares ≡ count)
      × ((node : ℕ) → node < count
      → get_or shares node whole ≡ fission_of (graph_view graph) round ways node)

  pub next_share : (shares : List Fission) (count : ℕ) (share : Fission)
      → AreShares shares count → share ≡ fission_of (graph_view graph) round ways count
      → AreShares (shares ++ share ∷ []) (count + 1)
  next_share shares count share are is = (
    omega (arith, are.0, lib.ListN.length-append shares (share ∷ [])),
    λ node less. elim (cases_lt node count) [
      | inl lower ↦ get_or_append_left shares (share ∷ []) whole node (omega (arith, lower, are.0))
          ∙ are.1 node lower
      | inr last ↦
          let e : node ≡ count = omega (arith, less, last) in
          get_or_push shares share whole node (omega (arith, are.0, e)) ∙ is
          ∙ ap (λ (n : ℕ). fission_of (graph_view graph) round ways n) (sym e)
    ],
  )

  pub all_shares : (shares : List Fission) → AreShares shares (length graph.nodes) → (node : ℕ)
      → get_or shares node whole ≡ fission_of (graph_view graph) round ways node
  all_shares shares are node = elim (cases_lt node (length graph.nodes)) [
    | inl there ↦ are.1 node there
    | inr past ↦ get_or_past shares node whole (omega (arith, past, are.0))
        ∙ sym (past_share graph round ways node past)
  ]
