-- How many slots a program's filters have, and how many items with those of its channels.
use Rattle.std.specs.Prelude.{ℕ, ◌+◌, List, length, slice_get}
use Rattle.std.specs.Option.{option_map_or}
use Rattle.strc_work_meaning.specs.Filters.{filter_of}
use Rattle.strc_work_code.specs.Lowering.{slot_count}
use Rattle.strc_elab_graph.specs.declared.graph.Node.{Node}
use Rattle.strc_elab_graph.specs.declared.graph.Node.TheVariants as nodes
use Rattle.strc_emit_moves.specs.declared.places.Network.{Network}
use Rattle.strc_emit_moves.specs.Rooms.{sum_below, total_room}

-- those of a filter's fields and code; other nodes have none
abbrev pub node_slots : Node → ℕ
node_slots (nodes.Filter instance) = slot_count (filter_of instance.code)
node_slots _ = 0

abbrev pub slots_at : List Node → (number : ℕ) → ℕ
slots_at codes number = option_map_or node_slots (slice_get codes number) 0

-- those of all nodes
abbrev pub total_slots : List Node → ℕ
total_slots codes = sum_below (slots_at codes) (length codes)

-- what a program's arrays have room for, with the slots of its filters
abbrev pub total_items : Network → ℕ
total_items network = total_room network + total_slots network.nodes.now
