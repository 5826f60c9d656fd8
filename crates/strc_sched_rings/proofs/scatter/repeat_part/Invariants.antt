use Rattle.std.proofs.Common.{◌≡◌, drop, take}
use Rattle.strc_sched_laws.specs.Rings.{extended}
use Rattle.strc_sched_rings.proofs.scatter.repeat_part.Given as goal

-- so many items of the part have joined
abbrev pub invariant-loop-turn : goal.invariant-loop-turn
invariant-loop-turn l = l.ring ≡ extended (take l.turn (drop l.start l.fn.ring.items)) l.fn.ring
