-- Where the items of a firing are in the arrays of channels. At the beginning of start-up an array
-- has the items that are enqueued, and at that of a round those that are left, from place 0 on; all
-- that are given then come after them, in the order of the firings.
use Rattle.std.specs.Prelude.{ℕ, ◌+◌, ℤ, List, [], ◌++◌, Option, Some, None, length, codes, decimal}
use Rattle.std.specs.Prelude.{slice_get, slice_index, slice_index_or, Vec}
use Rattle.std.specs.Global.{Global}
use Rattle.std.specs.Option.{option_map, option_map_or}
use Rattle.strc_elab_graph.specs.declared.graph.Channel.{Channel}
use Rattle.strc_elab_graph.specs.declared.graph.Node.{Node}
use Rattle.strc_elab_graph.specs.NodeView.{node_view}
use Rattle.strc_elab_graph.specs.Rates as rates
use Rattle.strc_emit_moves.specs.declared.places.Network.{Network}
use Rattle.strc_emit_moves.specs.declared.places.Items.{Items}
use Rattle.strc_emit_moves.specs.declared.places.Phase.{Phase}
use Rattle.strc_emit_moves.specs.declared.places.Phase.TheVariants as phase

-- the entry at a place, and the channel at a port of a node; none where there is no such port
abbrev pub entry_at : List (Option ℕ) → (port : ℕ) → Option ℕ
entry_at ports port = slice_index_or ports port None

abbrev pub entry_in : (port : ℕ) → Option (Vec (Option ℕ) Global) → Option ℕ
entry_in port None = None
entry_in port (Some ports) = entry_at ports.items port

abbrev pub channel_at : List (Vec (Option ℕ) Global) → (node port : ℕ) → Option ℕ
channel_at ports node port = entry_in port (slice_get ports node)

-- the items that are enqueued on a channel
abbrev pub enqueued_items : List Channel → (channel : ℕ) → List ℤ
enqueued_items channels channel =
    option_map_or (λ (there : Channel). there.enqueued.items) (slice_get channels channel) []

-- how many items a firing of a node takes and gives at a port
abbrev pub pops_of : List Node → (node firing port : ℕ) → ℕ
pops_of nodes node firing port =
    option_map_or (λ code. rates.pops_at (node_view code) firing port) (slice_get nodes node) 0

abbrev pub pushes_of : List Node → (node firing port : ℕ) → ℕ
pushes_of nodes node firing port =
    option_map_or (λ code. rates.pushes_at (node_view code) firing port) (slice_get nodes node) 0

-- how many items are before those that the second firing of start-up takes, or the first one of a
-- round
abbrev pub taken_before : Network → Phase → (node port : ℕ) → ℕ
taken_before network phase.Startup node port = pops_of network.nodes.now node 0 port
taken_before network phase.Round node port = 0

-- and before those that it gives
abbrev pub given_before : Network → Phase → (node port channel : ℕ) → ℕ
given_before network phase.Startup node port channel =
    length (enqueued_items network.channels.now channel) + pushes_of network.nodes.now node 0 port
given_before network phase.Round node port channel = slice_index network.left.now channel

-- where a node's firings have the items that they take at a port, and those that they give
abbrev pub taken_at : Network → Phase → (node port : ℕ) → Option Items
taken_at network when node port = option_map (λ channel. record {
  channel = channel;
  after = taken_before network when node port;
  each = pops_of network.nodes.now node 1 port;
  phase = when;
}) (channel_at network.inputs.now node port)

abbrev pub given_at : Network → Phase → (node port : ℕ) → Option Items
given_at network when node port = option_map (λ channel. record {
  channel = channel;
  after = given_before network when node port channel;
  each = pushes_of network.nodes.now node 1 port;
  phase = when;
}) (channel_at network.outputs.now node port)

-- where the items of firing i begin: `2 + 3 * i`, in start-up `2 + 3 * (i - 1)`
abbrev pub firing_name : Phase → List ℕ
firing_name phase.Startup = codes " * (i - 1)"
firing_name phase.Round = codes " * i"

abbrev pub place_text : Items → List ℕ
place_text items =
    decimal items.after ++ codes " + " ++ decimal items.each ++ firing_name items.phase

-- their address, or `nothing` at a port without a channel
abbrev pub pointer_text : Option Items → List ℕ
pointer_text None = codes "nothing"
pointer_text (Some items) =
    codes "c" ++ decimal items.channel ++ codes " + (" ++ place_text items ++ codes ")"
