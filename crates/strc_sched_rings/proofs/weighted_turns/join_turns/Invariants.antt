use Rattle.std.proofs.Common.{◌≡◌, ◌-◌, length}
use Rattle.strc_sched_laws.specs.Rings.{at_port, gathered_in}
use Rattle.strc_sched_rings.specs.Turns.{times}
use Rattle.strc_sched_rings.proofs.weighted_turns.join_turns.Given as goal

abbrev pub invariant-loop-turn : goal.invariant-loop-turn
invariant-loop-turn l = record {
  each : length l.rings ≡ length l.fn.rings;
  rest : times (l.turns - l._turn) (gathered_in l.weights l.inputs (at_port l.outputs 0) 0) l.rings
      ≡ times l.turns (gathered_in l.weights l.inputs (at_port l.outputs 0) 0) l.fn.rings;
}
