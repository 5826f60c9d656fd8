-- How many items the ends of a channel move.
use Rattle.std.specs.Prelude.{ℕ, Option, slice_get}
use Rattle.std.specs.Option.{option_map, option_and_then}
use Rattle.strc_elab_graph.specs.NodeView.{GraphParts, node_view}
use Rattle.strc_elab_graph.specs.Rates.{pushes_at, pops_at}
use Rattle.strc_elab_graph.specs.declared.graph.Channel.{Channel}
use Rattle.strc_elab_graph.specs.declared.graph.Node.{Node}

-- what a firing of a channel's source pushes on it and one of its target pops, by `work`
abbrev pub rates_by : Channel → (source target : Node) → ℕ × ℕ
rates_by channel source target = (
  pushes_at (node_view source) 1 channel.source.port,
  pops_at (node_view target) 1 channel.target.port,
)

-- the same of a channel of a graph, where both its ends are nodes
abbrev pub channel_rates : GraphParts → Channel → Option (ℕ × ℕ)
channel_rates graph channel = option_and_then
    (λ source. option_map (rates_by channel source) (slice_get graph.nodes channel.target.node))
    (slice_get graph.nodes channel.source.node)
