use Rattle.strc_sched_rings.specs.Circuits.{circuit_view}
use Rattle.strc_sched_machine.specs.Running.{IsMachine}
use Rattle.strc_tests_plans.proofs.splits.written.Given as goal

abbrev pub invariant-loop-round : goal.invariant-loop-round
invariant-loop-round l = IsMachine (circuit_view l.circuit) l.machine
