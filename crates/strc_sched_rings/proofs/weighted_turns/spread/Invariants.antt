use Rattle.strc_sched_rings.proofs.Turns.{Spreads}
use Rattle.strc_sched_rings.proofs.weighted_turns.spread.Given as goal

abbrev pub invariant-loop-port : goal.invariant-loop-port
invariant-loop-port l = Spreads l.weights l.outputs l.cycles.count l.cycles.length l.items l.left
    l.port l.fn.rings l.rings
