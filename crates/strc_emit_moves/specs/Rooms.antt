-- How large the arrays of channels are, and how many items leave them.
use Rattle.std.specs.Prelude.{ℕ, zero, suc, ◌+◌, ◌*◌, max, List, ◌++◌, length, codes, decimal}
use Rattle.std.specs.Prelude.{slice_get, slice_index}
use Rattle.std.specs.Option.{option_map_or}
use Rattle.strc_elab_graph.specs.declared.graph.Channel.{Channel}
use Rattle.strc_elab_graph.specs.declared.graph.Port.{Port}
use Rattle.strc_emit_text.specs.Numbers.{numbers_text}
use Rattle.strc_emit_moves.specs.declared.places.Network.{Network}
use Rattle.strc_emit_moves.specs.Places.{pops_of, pushes_of, enqueued_items}

-- where a channel begins and ends
abbrev pub first_port : Port
first_port = record { node = 0; port = 0 }

abbrev pub source_of : List Channel → (channel : ℕ) → Port
source_of channels channel =
    option_map_or (λ (there : Channel). there.source) (slice_get channels channel) first_port

abbrev pub target_of : List Channel → (channel : ℕ) → Port
target_of channels channel =
    option_map_or (λ (there : Channel). there.target) (slice_get channels channel) first_port

-- how many items the first firings of a node move: so many the first one, and each later one
abbrev pub moved : (first later firings : ℕ) → ℕ
moved first later zero = 0
moved first later (suc firings) = first + later * firings

-- and firings after so many others
abbrev pub moved_after : (before first later firings : ℕ) → ℕ
moved_after zero first later firings = moved first later firings
moved_after (suc before) first later firings = later * firings

-- how many items start-up and a round give at a port
abbrev pub given_first : Network → Port → ℕ
given_first network end = moved (pushes_of network.nodes.now end.node 0 end.port)
    (pushes_of network.nodes.now end.node 1 end.port) (slice_index network.startup.now end.node)

abbrev pub given_later : Network → Port → ℕ
given_later network end = moved_after (slice_index network.startup.now end.node)
    (pushes_of network.nodes.now end.node 0 end.port)
    (pushes_of network.nodes.now end.node 1 end.port) (slice_index network.round.now end.node)

-- how many they take of a channel
abbrev pub taken_first : Network → (channel : ℕ) → ℕ
taken_first network channel =
    let end = target_of network.channels.now channel in
    moved (pops_of network.nodes.now end.node 0 end.port)
    (pops_of network.nodes.now end.node 1 end.port) (slice_index network.startup.now end.node)

abbrev pub taken_later : Network → (channel : ℕ) → ℕ
taken_later network channel =
    let end = target_of network.channels.now channel in
    moved_after (slice_index network.startup.now end.node)
    (pops_of network.nodes.now end.node 0 end.port)
    (pops_of network.nodes.now end.node 1 end.port) (slice_index network.round.now end.node)

-- how many items the array of a channel has room for: all that are there until start-up is done, or
-- those that are left then and all that a round gives
abbrev pub room : Network → (channel : ℕ) → ℕ
room network channel =
    let source = source_of network.channels.now channel in
    max (length (enqueued_items network.channels.now channel) + given_first network source)
    (slice_index network.left.now channel + given_later network source)

-- the sum of what the numbers below one have
abbrev pub sum_below : (ℕ → ℕ) → (count : ℕ) → ℕ
sum_below amount zero = 0
sum_below amount (suc count) = sum_below amount count + amount count

-- and all arrays
abbrev pub total_room : Network → ℕ
total_room network = sum_below (room network) (length network.channels.now)

-- `static int32_t c5[7]`, and with what it begins with
abbrev pub head_text : (channel room : ℕ) → List ℕ
head_text channel room =
    codes "static int32_t c" ++ decimal channel ++ codes "[" ++ decimal room ++ codes "]"

abbrev pub array_text : Network → (channel : ℕ) → List ℕ
array_text network channel =
    head_text channel (max (room network channel) 1)
    ++ numbers_text (enqueued_items network.channels.now channel) ++ codes ";\n"
