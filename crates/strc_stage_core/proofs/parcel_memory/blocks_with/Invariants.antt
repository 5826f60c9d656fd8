use Rattle.std.proofs.Common.{◌≡◌, [], map, take, replicate}
use Rattle.std.specs.Vec.{vec_items, vec_capacity}
use Rattle.strc_stage_core.proofs.parcel_memory.blocks_with.Given as goal

abbrev pub invariant-loop-room : goal.invariant-loop-room
invariant-loop-room l = (map vec_items l.blocks.items ≡ replicate l.room-index [])
    × (map vec_capacity l.blocks.items ≡ take l.room-index l.rooms)
