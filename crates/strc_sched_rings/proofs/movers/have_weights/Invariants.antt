use Rattle.std.proofs.Common.{◌≡◌, drop}
use Rattle.strc_sched_laws.specs.Steps.{finds_weights}
use Rattle.strc_sched_rings.proofs.movers.have_weights.Given as goal

abbrev pub invariant-loop-port : goal.invariant-loop-port
invariant-loop-port l = finds_weights (drop l.port l.weights) l.inputs l.port l.rings
    ≡ finds_weights l.weights l.inputs 0 l.rings
