-- No channel of a program's graph goes back across a number that is between groups.
use Rattle.std.proofs.Common.{◌≡◌, ap, ◌∙◌, subst, ℕ, suc, ◌<◌, ◌≤◌, List, [], ◌∷◌}
use Rattle.std.proofs.Common.{length, get_or, All, map, arith}
use Rattle.std.proofs.lemmas.List.Elements.{All-cons, All-nil}
use Rattle.strc_elab_dataflow.specs.Flat.{Source}
use Rattle.strc_elab_dataflow.specs.Streams.{flat}
use Rattle.strc_elab_graph.specs.FlatGraphs.{IsProgram}
use Rattle.strc_elab_graph.specs.Graphs.{NodeCode, Channel, Graph}
use Rattle.strc_elab_stream.specs.Flattening.{tree_of, size_of, outer_loops}
use Rattle.strc_elab_stream.specs.Instances.{Stream}
use Rattle.strc_elab_stream.specs.Types.{IsWellTyped}
use Rattle.strc_elab_stream.proofs.Loops.{loops_are_by_node}
use Rattle.strc_elab_stream.proofs.Nodes.{nodes_are_codes}
use Rattle.strc_startup.specs.Rates.{rates_of, rates_of_channel}
use Rattle.strc_startup.specs.declared.channel_rates.ChannelRates.{ChannelRates}
use Rattle.strc_sched_orders.specs.Ranges.{IsClosedBelow}
use Rattle.strc_elab_dataflow.specs.Ranges.{IsBelow}
use Rattle.strc_elab_dataflow.proofs.Groups.{groups_go_forward}
use Rattle.strc_stage_plan.specs.Cuts.{IsBetweenGroups}
use Rattle.strc_stage_plan.specs.CutLaws.{ChannelsGoForward}
use Rattle.strc_stage_plan.proofs.GroupBounds.{Loops, bounds_are_of_groups}

-- channels whose rates don't go back
closed_from : (nodes : List NodeCode) (bound : ℕ) (channels : List Channel)
    → All (λ (channel : Channel). channel.target.node < bound → channel.source.node < bound)
    channels
    → IsClosedBelow (map (rates_of_channel nodes) channels) bound
closed_from nodes bound [] forward =
    All-nil (λ (rates : ChannelRates). rates.target < bound → rates.source < bound)
closed_from nodes bound (first ∷ rest) forward =
    All-cons (λ (rates : ChannelRates). rates.target < bound → rates.source < bound)
    (rates_of_channel nodes first) (map (rates_of_channel nodes) rest)
    (forward 0 first (omega arith))
    (closed_from nodes bound rest (λ k d within. forward (suc k) d (omega (arith, within))))

module _ (stream : Stream) (graph : Graph) (typed : IsWellTyped stream)
    (program : IsProgram (tree_of stream) graph)
    (loops : graph.outer_loops ≡ outer_loops 0 stream) where
  nodes_many : size_of stream ≡ length graph.nodes
  nodes_many = omega (
    arith,
    ap length program.flat.nodes,
    ap length (nodes_are_codes stream typed),
  )

  -- the graph says of each of its nodes in which outermost loop it is
  pub loops_many : length graph.outer_loops ≡ length graph.nodes
  loops_many = ap length loops ∙ loops_are_by_node stream 0 ∙ nodes_many

  module _ (bound : ℕ) (less : bound ≤ length graph.nodes)
      (between : IsBetweenGroups graph.outer_loops bound) where
    -- what comes to a node before it comes from such a one
    pub sources_below : (node port : ℕ) → node < bound
        → IsBelow bound ((flat (tree_of stream)).source node port).origin
    sources_below =
        let (number, is) = bounds_are_of_groups stream bound typed (omega (arith, less, nodes_many))
        (subst (λ (l : Loops). IsBetweenGroups l bound) loops between) in
        subst (λ (b : ℕ). (node port : ℕ) → node < b
        → IsBelow b ((flat (tree_of stream)).source node port).origin) is
        ((groups_go_forward (tree_of stream)).1 number)

    pub closed_below : IsClosedBelow (rates_of graph) bound
    closed_below = closed_from graph.nodes bound graph.channels (λ k d within below.
        let channel : Channel = get_or graph.channels k d in
        subst (IsBelow bound)
        (ap (λ (source : Source). source.origin) (program.flat.channels k d within))
        (sources_below channel.target.node channel.target.port below))

pub channels_go_forward : ChannelsGoForward
channels_go_forward stream graph bound typed program loops =
    closed_below stream graph typed program loops bound
