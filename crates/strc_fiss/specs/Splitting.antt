-- A graph after fission: its nodes, its channels and what they hold, and its feedback loops.
use Rattle.std.specs.Prelude.{ℕ, zero, suc, ◌+◌, Bool, cond, nat_eq, nat_lt, List, [], ◌∷◌}
use Rattle.std.specs.Prelude.{◌++◌, map, filter, length, get_or, Option, None}
use Rattle.std.specs.Prelude.{option_map}
use Rattle.strc_elab_graph.specs.Graphs.{Graph, Channel, NodeCode, Filter, Joiner, Scatter}
use Rattle.strc_elab_graph.specs.Graphs.{Copy, Gather, CopiedCode, OfFilter, OfIdentity}
use Rattle.strc_elab_graph.specs.declared.graph.Fission.{Fission}
use Rattle.strc_elab_graph.specs.declared.graph.Port.{Port}
use Rattle.strc_fiss.specs.Numbers.{up_to, joined_up_to, is_dealt, last_part, base, each_part}

-- what a copy of a node is a copy of
abbrev pub copied : NodeCode → CopiedCode
copied (Filter name filter) = OfFilter name filter
copied _ = OfIdentity

-- a part of a node that is split
abbrev pub part_of : NodeCode → Fission → (part : ℕ) → NodeCode
part_of code fission zero = Scatter fission
part_of code fission (suc copy) =
    cond (nat_lt copy fission.ways) (Copy (copied code) fission) (Gather fission)

-- a part of a node
abbrev pub part_code : NodeCode → Fission → (part : ℕ) → NodeCode
part_code code fission part = cond (is_dealt fission) (part_of code fission part) code

-- a node by its number; one past the last has no ports
abbrev pub code_at : List NodeCode → (node : ℕ) → NodeCode
code_at nodes node = get_or nodes node (Joiner [])

-- the joiner of the outermost feedback loop that a node is in
abbrev pub loop_at : List (Option ℕ) → (node : ℕ) → Option ℕ
loop_at loops node = get_or loops node None

-- a channel, and its greatest and its last number of items in start-up
pub record Wire : Type 0 where
  pub channel : Channel
  pub greatest : ℕ
  pub last : ℕ

-- each channel with these
abbrev pub wires_of : List Channel → (greatest last : List ℕ) → List Wire
wires_of (channel ∷ channels) (high ∷ greatest) (held ∷ last) =
    record { channel = channel; greatest = high; last = held } ∷ wires_of channels greatest last
wires_of channels greatest last = []

-- whether it leaves a node
abbrev pub leaves : (node : ℕ) → Wire → Bool
leaves node wire = nat_eq wire.channel.source.node node

abbrev pub port : (node port : ℕ) → Port
port node number = record { node = node; port = number }

-- a channel between parts, on which nothing is before the first round
abbrev pub new_wire : (source target : Port) → Wire
new_wire source target = record {
  channel = record { source = source; target = target; enqueued = [] };
  greatest = 0;
  last = 0;
}

-- from a scatter of this number to a copy, and from a copy to the gather
abbrev pub to_copy : (number copy : ℕ) → Wire
to_copy number copy = new_wire (port number copy) (port (number + suc copy) 0)

abbrev pub from_copy : (number ways copy : ℕ) → Wire
from_copy number ways copy =
    new_wire (port (number + suc copy) 0) (port (number + suc ways) copy)

-- the channels between the parts of a node
abbrev pub inner_wires : (number : ℕ) → Fission → List Wire
inner_wires number fission = cond (is_dealt fission)
    (up_to (to_copy number) fission.ways ++ up_to (from_copy number fission.ways) fission.ways) []

module _ (share : ℕ → Fission) where
  -- a part of a node, by the node's number
  abbrev pub new_code : List NodeCode → (node part : ℕ) → NodeCode
  new_code nodes node part = part_code (code_at nodes node) (share node) part

  -- what left a node leaves its last part, and what came to it comes to its first one
  abbrev pub renamed_channel : Channel → Channel
  renamed_channel channel = record {
    source = port (base share channel.source.node + last_part share channel.source.node)
        channel.source.port;
    target = port (base share channel.target.node) channel.target.port;
    enqueued = channel.enqueued;
  }

  abbrev pub renamed_wire : Wire → Wire
  renamed_wire wire = record {
    channel = renamed_channel wire.channel;
    greatest = wire.greatest;
    last = wire.last;
  }

  -- the channels that leave the parts of a node
  abbrev pub leaving : List Wire → (node : ℕ) → List Wire
  leaving wires node = inner_wires (base share node) (share node)
      ++ map renamed_wire (filter (leaves node) wires)

  -- all channels, in order of the nodes and the ports that they leave
  abbrev pub new_wires : (size : ℕ) → List Wire → List Wire
  new_wires size wires = joined_up_to (leaving wires) size

  -- the new number of a joiner; what is no node keeps its number
  abbrev pub new_joiner : (size node : ℕ) → ℕ
  new_joiner size node = cond (nat_lt node size) (base share node) node

  -- the outermost loop of a part
  abbrev pub new_loop : (size : ℕ) → List (Option ℕ) → (node part : ℕ) → Option ℕ
  new_loop size loops node part = option_map (new_joiner size) (loop_at loops node)

  -- the graph after fission, where its channels have so many items in start-up
  abbrev pub split_wires : Graph → (greatest last : List ℕ) → List Wire
  split_wires graph greatest last =
      new_wires (length graph.nodes) (wires_of graph.channels greatest last)

  abbrev pub split_graph : Graph → (greatest last : List ℕ) → Graph
  split_graph graph greatest last = record {
    nodes = each_part share (new_code graph.nodes) (length graph.nodes);
    channels = map (λ (wire : Wire). wire.channel) (split_wires graph greatest last);
    outer_loops = each_part share (new_loop (length graph.nodes) graph.outer_loops)
        (length graph.nodes);
  }

  -- for each channel its greatest and its last number of items in start-up
  abbrev pub split_greatest : Graph → (greatest last : List ℕ) → List ℕ
  split_greatest graph greatest last =
      map (λ (wire : Wire). wire.greatest) (split_wires graph greatest last)

  abbrev pub split_last : Graph → (greatest last : List ℕ) → List ℕ
  split_last graph greatest last =
      map (λ (wire : Wire). wire.last) (split_wires graph greatest last)
