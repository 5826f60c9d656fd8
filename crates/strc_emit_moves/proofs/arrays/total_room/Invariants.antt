use Rattle.std.proofs.Common.{◌≡◌, ◌-◌, ◌^◌, min}
use Rattle.strc_emit_moves.specs.Rooms.{room, sum_below}
use Rattle.strc_emit_moves.proofs.arrays.total_room.Given as goal

-- the room of the arrays so far
abbrev pub invariant-loop-channel : goal.invariant-loop-channel
invariant-loop-channel l = l.total ≡ min (sum_below (room l.network) l.channel) (2 ^ 64 - 1)
