-- Sums over the buffers and the nodes of a plan, up to the greatest number of 64 bits.
use Rattle.std.specs.Prelude.{ℕ, ◌+◌, ◌-◌, ◌^◌, List, [], ◌∷◌, min, sum, map, nat_eq}
use Rattle.std.specs.Prelude.{nat_lt, length, slice_index_or, slice_set}
use Rattle.std.specs.Prelude.{if◌then◌else◌}
use Rattle.std.specs.List.{range_with_len}
use Rattle.strc_elab_graph.specs.declared.graph.Channel.{Channel}

abbrev pub held : ℕ → ℕ
held number = min number (2 ^ 64 - 1)

abbrev pub sum_of : List ℕ → ℕ
sum_of numbers = held (sum numbers)

-- the sizes of the buffers of those channels to which a node gives items
abbrev pub size_behind : (node : ℕ) → List Channel → (sizes : List ℕ) → ℕ
size_behind node (channel ∷ channels) (size ∷ sizes) =
    (if nat_eq channel.source.node node then size else 0) + size_behind node channels sizes
size_behind node channels sizes = 0

-- the size of a channel's buffer is added to the sum of the node that gives it items
abbrev pub with_size : (sums : List ℕ) → Channel → (size : ℕ) → List ℕ
with_size sums channel size =
    let node = channel.source.node in
    if nat_lt node (length sums)
    then slice_set sums node (held (slice_index_or sums node 0 + size)) else sums

-- of each of so many nodes
abbrev pub sizes_behind : (nodes : ℕ) → List Channel → (sizes : List ℕ) → List ℕ
sizes_behind nodes channels sizes =
    map (λ node. held (size_behind node channels sizes)) (range_with_len 0 nodes)
