use Rattle.std.proofs.Common.{◌≡◌, ◌-◌, ◌^◌, min}
use Rattle.strc_emit_moves.specs.Rooms.{sum_below}
use Rattle.strc_emit.specs.Slots.{slots_at}
use Rattle.strc_emit.proofs.slots.total_slots.Given as goal

-- the slots of the nodes so far
abbrev pub invariant-loop-number : goal.invariant-loop-number
invariant-loop-number l = l.total ≡ min (sum_below (slots_at l.nodes) l.number) (2 ^ 64 - 1)
