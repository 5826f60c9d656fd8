use Rattle.std.proofs.Common.{◌≡◌, ◌-◌, length}
use Rattle.strc_sched_rings.specs.Turns.{times}
use Rattle.strc_sched_rings.specs.Pairs.{gathered_from}
use Rattle.strc_sched_rings.proofs.pair.gather_from.Given as goal

abbrev pub invariant-loop-turn : goal.invariant-loop-turn
invariant-loop-turn l = record {
  each : length l.rings ≡ length l.fn.rings;
  rest : times (l.turns - l._turn) (gathered_from l.pair) l.rings
      ≡ times l.turns (gathered_from l.pair) l.fn.rings;
}
