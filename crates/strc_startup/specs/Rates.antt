-- The rates of a graph's channels, by the first firings of their nodes and by later ones.
use Rattle.std.specs.Prelude.{ℕ, Bool, false, List, map, length, slice_get, is_some}
use Rattle.std.specs.Prelude.{if◌then◌else◌}
use Rattle.std.specs.Option.{option_map_or}
use Rattle.strc_work_meaning.specs.Filters.{prework_block}
use Rattle.strc_elab_graph.specs.Graphs as graphs
use Rattle.strc_elab_graph.specs.Graphs.{NodeCode, CopiedCode, Channel, Graph}
use Rattle.strc_elab_graph.specs.Rates.{window_at, pops_at, pushes_at}
use Rattle.strc_elab_graph.specs.declared.graph.Port.{Port}
use Rattle.strc_startup.specs.declared.channel_rates.ChannelRates.{ChannelRates}

-- whether what is copied has a prework
abbrev pub copied_prework : CopiedCode → Bool
copied_prework (graphs.OfFilter name filter) = is_some (prework_block filter.members)
copied_prework graphs.OfIdentity = false

-- whether a node has a prework
abbrev pub has_prework : NodeCode → Bool
has_prework (graphs.Filter name filter) = is_some (prework_block filter.members)
has_prework (graphs.Copy copied fission) = copied_prework copied
has_prework _ = false

-- how often a node fires at least: its prework fires once
abbrev pub first_count : NodeCode → ℕ
first_count node = if has_prework node then 1 else 0

-- how many items a firing of a node by its number pushes, pops and looks at, at a port
abbrev pub push_at : List NodeCode → (firing : ℕ) → Port → ℕ
push_at nodes firing port =
    option_map_or (λ node. pushes_at node firing port.port) (slice_get nodes port.node) 0

abbrev pub pop_at : List NodeCode → (firing : ℕ) → Port → ℕ
pop_at nodes firing port =
    option_map_or (λ node. pops_at node firing port.port) (slice_get nodes port.node) 0

abbrev pub look_at : List NodeCode → (firing : ℕ) → Port → ℕ
look_at nodes firing port =
    option_map_or (λ node. window_at node firing port.port) (slice_get nodes port.node) 0

-- a prework's window at a port; none where a node has no prework
abbrev pub window_of_prework : NodeCode → (port : ℕ) → ℕ
window_of_prework node port = if has_prework node then window_at node 0 port else 0

abbrev pub prework_window : List NodeCode → Port → ℕ
prework_window nodes port =
    option_map_or (λ node. window_of_prework node port.port) (slice_get nodes port.node) 0

-- the rates of a channel: each firing after the first one is by work
abbrev pub rates_of_channel : List NodeCode → Channel → ChannelRates
rates_of_channel nodes channel = record {
  source = channel.source.node;
  enqueued = length channel.enqueued;
  first_push = push_at nodes 0 channel.source;
  push = push_at nodes 1 channel.source;
  target = channel.target.node;
  prework_window = prework_window nodes channel.target;
  first_window = look_at nodes 0 channel.target;
  first_pop = pop_at nodes 0 channel.target;
  pop = pop_at nodes 1 channel.target;
  window = look_at nodes 1 channel.target;
}

-- those of all channels, and the first counts of all nodes
abbrev pub rates_of : Graph → List ChannelRates
rates_of graph = map (rates_of_channel graph.nodes) graph.channels

abbrev pub first_counts : Graph → List ℕ
first_counts graph = map first_count graph.nodes
