use Rattle.std.proofs.Common.{◌≡◌, ◌-◌}
use Rattle.strc_sched_laws.specs.Rings.{extended}
use Rattle.strc_sched_rings.specs.Turns.{firsts}
use Rattle.strc_sched_rings.proofs.weighted_turns.extend_by_cycles.Given as goal

abbrev pub invariant-loop-cycle : goal.invariant-loop-cycle
invariant-loop-cycle l =
    extended (firsts (l.cycles.count - l._cycle) l.weight l.cycles.length l.left) l.ring
    ≡ extended (firsts l.cycles.count l.weight l.cycles.length l.items) l.fn.ring
