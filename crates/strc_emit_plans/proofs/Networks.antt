-- What a network of a graph has: the graph's nodes, rates and channels, and the channels at each
-- port.
use Rattle.std.proofs.Common.{◌≡◌, ℕ, zero, suc, List, [], ◌∷◌, map, Option, Some, None}
use Rattle.std.proofs.Common.{refl, sym, ap, ◌∙◌}
use Rattle.std.specs.Prelude.{slice_get, Vec, vec_items}
use Rattle.std.specs.Global.{Global}
use Rattle.std.specs.Option.{option_map, option_map_or}
use Rattle.std.proofs.lemmas.Option.{slice_get-map, none-some, same_Some}
use Rattle.strc_elab_dataflow.specs.Flat as flat
use Rattle.strc_elab_graph.specs.declared.graph.Channel.{Channel}
use Rattle.strc_elab_graph.specs.declared.graph.Node.{Node}
use Rattle.strc_elab_graph.specs.declared.graph.Port.{Port as End}
use Rattle.strc_elab_graph.specs.Graphs.{NodeCode, Graph}
use Rattle.strc_elab_graph.specs.Graphs as graphs
use Rattle.strc_elab_graph.specs.NodeView.{GraphParts, graph_view, node_view, channel_view}
use Rattle.strc_elab_graph.specs.Rates.{pops_at, pushes_at}
use Rattle.strc_sched_orders.specs.Schedules.{ScheduleParts}
use Rattle.strc_sched_laws.specs.ByChannels.{IsByChannels}
use Rattle.strc_sched_laws.specs.Rings.{at_port}
use Rattle.strc_sched_laws.specs.Wiring.{PortRings, ports_at}
use Rattle.strc_sched_laws.proofs.Ends.{input_channel, output_channel, source_ring}
use Rattle.strc_emit_moves.specs.declared.places.Items.{Items}
use Rattle.strc_emit_moves.specs.declared.places.Phase.{Phase}
use Rattle.strc_emit_moves.specs.Places.{channel_at, entry_in, pops_of, pushes_of, taken_before}
use Rattle.strc_emit_moves.specs.Places.{given_before, taken_at, given_at}
use Rattle.strc_emit_runs.specs.Running.{Program, code_at}
use Rattle.strc_emit.specs.Networks.{IsNetworkOf}

abbrev pub end_of : (node port : ℕ) → End
end_of node port = record { node = node; port = port }

-- a rate of a node that is there
viewed : (rate : NodeCode → ℕ) (found : Option Node)
    → option_map_or (λ node. rate (node_view node)) found 0
    ≡ option_map_or rate (option_map node_view found) 0
viewed rate None = refl
viewed rate (Some node) = refl

-- the entry at a port
entry_is : (ports : List (Vec (Option ℕ) Global)) (node port : ℕ)
    → entry_in port (slice_get ports node) ≡ at_port (ports_at (map vec_items ports) node) port
entry_is [] node port = refl
entry_is (first ∷ rest) zero port = refl
entry_is (first ∷ rest) (suc node) port = entry_is rest node port

pub channel_is : (ports : List (Vec (Option ℕ) Global)) (rings : PortRings) (node port : ℕ)
    → map vec_items ports ≡ rings → channel_at ports node port ≡ at_port (ports_at rings node) port
channel_is ports rings node port same =
    entry_is ports node port ∙ ap (λ r. at_port (ports_at r node) port) same

module _ (parts : GraphParts) (startup round : List ℕ) (schedule : ScheduleParts)
    (program : Program) (own : IsNetworkOf parts startup round schedule program.network) where
  abbrev pub graph : Graph
  graph = graph_view parts

  -- nodes and channels
  pub code_is : (node : ℕ) → code_at program node ≡ slice_get graph.nodes node
  code_is node =
      ap (λ (l : List Node). option_map node_view (slice_get l node)) own.parts.nodes
      ∙ sym (slice_get-map node_view parts.nodes node)

  pub channel_there : (number : ℕ) (channel : Channel)
      → slice_get program.network.channels.now number ≡ Some channel
      → slice_get graph.channels number ≡ Some (channel_view channel)
  channel_there number channel at =
      slice_get-map channel_view parts.channels number
      ∙ ap (λ (l : List Channel). option_map channel_view (slice_get l number))
      (sym own.parts.channels)
      ∙ ap (option_map channel_view) at

  pub channel_back : (number : ℕ) (channel : graphs.Channel)
      → slice_get graph.channels number ≡ Some channel
      → (found : Channel) × (slice_get program.network.channels.now number ≡ Some found)
      × (channel_view found ≡ channel)
  channel_back number channel at =
      by (slice_get program.network.channels.now number) refl
      (ap (λ (l : List Channel). option_map channel_view (slice_get l number)) own.parts.channels
      ∙ sym (slice_get-map channel_view parts.channels number) ∙ at)
    where
      by : (o : Option Channel) → slice_get program.network.channels.now number ≡ o
          → option_map channel_view o ≡ Some channel
          → (found : Channel) × (slice_get program.network.channels.now number ≡ Some found)
          × (channel_view found ≡ channel)
      by None there e = absurd (none-some channel e)
      by (Some found) there e = (found, there, same_Some (channel_view found) channel e)

  -- rates
  pub pops_are : (node firing port : ℕ) → pops_of program.network.nodes.now node firing port
      ≡ option_map_or (λ code. pops_at code firing port) (slice_get graph.nodes node) 0
  pops_are node firing port =
      ap (λ (l : List Node). pops_of l node firing port) own.parts.nodes
      ∙ viewed (λ code. pops_at code firing port) (slice_get parts.nodes node)
      ∙ ap (λ (o : Option NodeCode). option_map_or (λ code. pops_at code firing port) o 0)
      (sym (slice_get-map node_view parts.nodes node))

  pub pushes_are : (node firing port : ℕ) → pushes_of program.network.nodes.now node firing port
      ≡ option_map_or (λ code. pushes_at code firing port) (slice_get graph.nodes node) 0
  pushes_are node firing port =
      ap (λ (l : List Node). pushes_of l node firing port) own.parts.nodes
      ∙ viewed (λ code. pushes_at code firing port) (slice_get parts.nodes node)
      ∙ ap (λ (o : Option NodeCode). option_map_or (λ code. pushes_at code firing port) o 0)
      (sym (slice_get-map node_view parts.nodes node))

  -- items at a port that is a channel's
  abbrev pub taken_items : Phase → (node port number : ℕ) → Items
  taken_items when node port number = record {
    channel = number;
    after = taken_before program.network when node port;
    each = pops_of program.network.nodes.now node 1 port;
    phase = when;
  }

  abbrev pub given_items : Phase → (node port number : ℕ) → Items
  given_items when node port number = record {
    channel = number;
    after = given_before program.network when node port number;
    each = pushes_of program.network.nodes.now node 1 port;
    phase = when;
  }

  module _ (running : flat.Graph NodeCode) (joins : IsByChannels running graph) (when : Phase)
    where
      pub record IsTaken (node port : ℕ) (items : Items) : Type 0 where
        pub channel : Channel
        pub there : slice_get program.network.channels.now items.channel ≡ Some channel
        pub target : channel.target ≡ end_of node port
        pub is : taken_items when node port items.channel ≡ items

      pub record IsGiven (node port : ℕ) (items : Items) : Type 0 where
        pub channel : Channel
        pub there : slice_get program.network.channels.now items.channel ≡ Some channel
        pub source : channel.source ≡ end_of node port
        pub is : given_items when node port items.channel ≡ items

      pub taken_is : (node port : ℕ) (items : Items)
          → taken_at program.network when node port ≡ Some items → IsTaken node port items
      taken_is node port items at =
          by (channel_at program.network.inputs.now node port) refl at
        where
          by : (o : Option ℕ) → channel_at program.network.inputs.now node port ≡ o
              → option_map (taken_items when node port) o ≡ Some items → IsTaken node port items
          by None there e = absurd (none-some items e)
          by (Some number) there e =
              let same : taken_items when node port number ≡ items =
              same_Some (taken_items when node port number) items e in
              let found = input_channel running graph joins own.circuit own.is node port number
              (sym (channel_is program.network.inputs.now own.circuit.inputs node port own.inputs)
              ∙ there) in
              let mine = channel_back number found.0 found.1 in
              let here : number ≡ items.channel = ap (λ (i : Items). i.channel) same in
              record {
                channel = mine.0;
                there = ap (slice_get program.network.channels.now) (sym here) ∙ mine.1;
                target = ap (λ (c : graphs.Channel). c.target) mine.2 ∙ found.2;
                is = ap (taken_items when node port) (sym here) ∙ same;
              }

      pub given_is : (node port : ℕ) (items : Items)
          → given_at program.network when node port ≡ Some items → IsGiven node port items
      given_is node port items at =
          by (channel_at program.network.outputs.now node port) refl at
        where
          by : (o : Option ℕ) → channel_at program.network.outputs.now node port ≡ o
              → option_map (given_items when node port) o ≡ Some items → IsGiven node port items
          by None there e = absurd (none-some items e)
          by (Some number) there e =
              let same : given_items when node port number ≡ items =
              same_Some (given_items when node port number) items e in
              let found = output_channel running graph joins own.circuit own.is node port number
              (sym (channel_is program.network.outputs.now own.circuit.outputs node port
              own.outputs) ∙ there) in
              let mine = channel_back number found.0 found.1 in
              let here : number ≡ items.channel = ap (λ (i : Items). i.channel) same in
              record {
                channel = mine.0;
                there = ap (slice_get program.network.channels.now) (sym here) ∙ mine.1;
                source = ap (λ (c : graphs.Channel). c.source) mine.2 ∙ found.2;
                is = ap (given_items when node port) (sym here) ∙ same;
              }

      -- the items of a channel at its source
      pub source_items : (number : ℕ) (channel : Channel)
          → slice_get program.network.channels.now number ≡ Some channel
          → given_at program.network when channel.source.node channel.source.port
          ≡ Some (given_items when channel.source.node channel.source.port number)
      source_items number channel at =
          ap (option_map (given_items when channel.source.node channel.source.port))
          (channel_is program.network.outputs.now own.circuit.outputs channel.source.node
          channel.source.port own.outputs
          ∙ source_ring running graph joins own.circuit own.is number (channel_view channel)
          (channel_there number channel at))
