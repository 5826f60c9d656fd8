use Rattle.std.proofs.Common.{◌≡◌, ◌++◌, drop, take}
use Rattle.circular_buffer.specs.Buffer.{buffer}
use Rattle.strc_sched_rings.proofs.item_moves.rotate.Given as goal

-- the first items so far are behind the others
abbrev pub invariant-loop-turn : goal.invariant-loop-turn
invariant-loop-turn l = l.ring
    ≡ buffer (drop l._turn l.fn.ring.items ++ take l._turn l.fn.ring.items) l.fn.ring.capacity
