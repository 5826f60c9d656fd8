-- The text of a picture of a flat graph, as Graphviz reads it.
use Rattle.std.specs.Prelude.{ℕ, zero, suc, ◌/◌, ◌%◌, List, [], ◌∷◌, ◌++◌, codes, decimal, length}
use Rattle.std.specs.Prelude.{slice_get, slice_index_or, Option, Some, None, map, nat_lt}
use Rattle.std.specs.Prelude.{count_by, if◌then◌else◌, Bool, true, false, ◌&&◌, nat_le, nat_eq}
use Rattle.std.specs.List.{list_any}
use Rattle.std.specs.Option.{option_map_or}
use Rattle.strc_elab_graph.specs.declared.graph.Channel.{Channel}
use Rattle.strc_elab_graph.specs.declared.graph.Node.{Node}
use Rattle.strc_elab_graph.specs.Graphs.{NodeCode, Scatter, Copy, Gather, gives_words}
use Rattle.strc_elab_graph.specs.Rates.{pushes_at, pops_at}
use Rattle.strc_elab_graph.specs.NodeView.{node_view, GraphParts}

-- what is written of the nodes: their labels, what they are, how often each fires in a round and
-- before the first one, the tapes of those that have one, and in thousandths the share of the time
-- of those of which it is known
pub record Nodes : Type 0 where
  pub names : List (List ℕ)
  pub kinds : List Node
  pub round : List ℕ
  pub startup : List ℕ
  pub tapes : List (Option ℕ)
  pub shares : List (Option ℕ)

-- nothing, where a node doesn't fire before the first round
abbrev pub startup_words : ℕ → List ℕ
startup_words zero = []
startup_words (suc count) = codes ", " ++ decimal (suc count) ++ codes " before"

-- the tapes of nodes, where the first tape has this number
abbrev pub tape_numbers : (number : ℕ) → List NodeCode → List (Option ℕ)
tape_numbers number [] = []
tape_numbers number (code ∷ nodes) = if gives_words code
    then Some number ∷ tape_numbers (suc number) nodes else None ∷ tape_numbers number nodes

-- how many there are
abbrev pub tape_count : List NodeCode → ℕ
tape_count nodes = count_by gives_words nodes

-- they are named where there are several
abbrev pub named_tapes : List NodeCode → List (Option ℕ)
named_tapes nodes = if nat_lt 1 (tape_count nodes) then tape_numbers 0 nodes else []

-- nothing, where a node has none
abbrev pub tape_words : Option ℕ → List ℕ
tape_words None = []
tape_words (Some number) = codes "\\ntape " ++ decimal number

-- the beginning of a node's line, up to its number and its label
abbrev pub name_words : (names : List (List ℕ)) → (node : ℕ) → List ℕ
name_words names node =
    codes "  n" ++ decimal node ++ codes " [label=\"" ++ decimal node ++ codes " "
    ++ slice_index_or names node []

-- how often it fires in a round and before the first one
abbrev pub count_words : Nodes → (node : ℕ) → List ℕ
count_words nodes node =
    codes "\\n" ++ decimal (slice_index_or nodes.round node 0) ++ codes " a round"
    ++ startup_words (slice_index_or nodes.startup node 0)

-- a node is drawn as a box; a scatter widens towards its copies, a copy stands beside others, and a
-- gather narrows from them
abbrev pub shape_of : NodeCode → List ℕ
shape_of (Scatter fission) = codes ", shape=trapezium"
shape_of (Copy copied fission) = codes ", shape=box3d"
shape_of (Gather fission) = codes ", shape=invtrapezium"
shape_of code = []

abbrev pub shape_at : List Node → (node : ℕ) → List ℕ
shape_at nodes node = option_map_or (λ n. shape_of (node_view n)) (slice_get nodes node) []

-- a share of the time, in thousandths, as a percentage
abbrev pub percent_words : (share : ℕ) → List ℕ
percent_words share =
    codes "\\n" ++ decimal (share / 10) ++ codes "." ++ decimal (share % 10)
    ++ codes " % of the time\""

-- the larger, the more red
abbrev pub color_words : (share : ℕ) → List ℕ
color_words share =
    codes ", style=filled, fillcolor=\"0.000 " ++ decimal (share / 1000) ++ codes "."
    ++ decimal (share / 100 % 10) ++ decimal (share / 10 % 10) ++ decimal (share % 10)
    ++ codes " 1.000\"];\n"

-- the end of the line of a node of this share of the time
abbrev pub shared_end_words : (shape : List ℕ) → (share : ℕ) → List ℕ
shared_end_words shape share = percent_words share ++ shape ++ color_words share

-- and of one whose share isn't known
abbrev pub end_words : (shape : List ℕ) → (share : Option ℕ) → List ℕ
end_words shape None = codes "\"" ++ shape ++ codes "];\n"
end_words shape (Some share) = shared_end_words shape share

-- the line of a node
abbrev pub node_line : Nodes → (node : ℕ) → List ℕ
node_line nodes node =
    name_words nodes.names node ++ count_words nodes node
    ++ tape_words (slice_index_or nodes.tapes node None)
    ++ end_words (shape_at nodes.kinds node) (slice_index_or nodes.shares node None)

abbrev pub close_line : List ℕ
close_line = codes "  }\n"

-- what a firing of `work` pushes at a port, or pops: firing 1, since firing 0 may be a prework's
abbrev pub push_rate : List Node → (node port : ℕ) → ℕ
push_rate nodes node port =
    option_map_or (λ n. pushes_at (node_view n) 1 port) (slice_get nodes node) 0

abbrev pub pop_rate : List Node → (node port : ℕ) → ℕ
pop_rate nodes node port =
    option_map_or (λ n. pops_at (node_view n) 1 port) (slice_get nodes node) 0

-- nothing, where no items are enqueued on a channel
abbrev pub enqueued_words : (count : ℕ) → List ℕ
enqueued_words zero = []
enqueued_words (suc count) = codes "\\n" ++ decimal (suc count) ++ codes " enqueued"

-- the rates at a channel's ends, by `work`
abbrev pub rate_words : List Node → Channel → List ℕ
rate_words nodes channel =
    codes " [taillabel=\"" ++ decimal (push_rate nodes channel.source.node channel.source.port)
    ++ codes "\", headlabel=\"" ++ decimal (pop_rate nodes channel.target.node channel.target.port)

-- the size of its buffer, and how many items are enqueued on it
abbrev pub size_words : Channel → (size : ℕ) → List ℕ
size_words channel size =
    codes "\", label=\"size " ++ decimal size ++ enqueued_words (length channel.enqueued.items)
    ++ codes "\"];\n"

-- whether a stage begins after the source of a channel, and no later than at its target
abbrev pub is_between : (source target : ℕ) → (bound : ℕ) → Bool
is_between source target bound = nat_lt source bound && nat_le bound target

-- whether a channel goes from a stage to a later one, so that parcels carry its items
abbrev pub crosses : (bounds : List ℕ) → Channel → Bool
crosses bounds channel = list_any (is_between channel.source.node channel.target.node) bounds

-- such a channel is drawn as a bold line
abbrev pub crossing_words : (crosses : Bool) → List ℕ
crossing_words true = codes " [style=bold]"
crossing_words false = []

-- the lines of nodes between which a channel is drawn
abbrev pub end_nodes : (source target : ℕ) → List ℕ
end_nodes source target = codes "  n" ++ decimal source ++ codes " -> n" ++ decimal target

-- the node whose line stands for one, where these stand for the nodes
abbrev pub shown_at : (shown : List ℕ) → (node : ℕ) → ℕ
shown_at shown node = slice_index_or shown node node

-- the line of a channel, where stages have these bounds; one within a single box has none
abbrev pub channel_line : (bounds shown : List ℕ) → List Node → Channel → (size : ℕ) → List ℕ
channel_line bounds shown nodes channel size =
    let source = shown_at shown channel.source.node in
    let target = shown_at shown channel.target.node in
    if nat_eq source target then []
    else (end_nodes source target ++ crossing_words (crosses bounds channel)
    ++ rate_words nodes channel ++ size_words channel size)

-- the lines of channels with buffers of these sizes
abbrev pub channel_lines : (bounds shown : List ℕ) → List Node → List Channel → (sizes : List ℕ)
    → List ℕ
channel_lines bounds shown nodes (channel ∷ channels) (size ∷ sizes) =
    channel_line bounds shown nodes channel size
    ++ channel_lines bounds shown nodes channels sizes
channel_lines bounds shown nodes channels sizes = []

-- what is written of a graph's nodes, by their labels, their counts and their shares
abbrev pub counted_nodes : GraphParts → (labels : List (List ℕ)) → (startup round : List ℕ)
    → (shares : List (Option ℕ)) → Nodes
counted_nodes graph labels startup round shares = record {
  names = labels;
  kinds = graph.nodes;
  round = round;
  startup = startup;
  tapes = named_tapes (map node_view graph.nodes);
  shares = shares;
}
