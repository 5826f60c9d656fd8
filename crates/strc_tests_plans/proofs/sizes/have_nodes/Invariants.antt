use Rattle.std.proofs.Common.{take, All}
use Rattle.strc_sched_orders.specs.Peaks.{HasNodes}
use Rattle.strc_tests_plans.proofs.sizes.have_nodes.Given as goal

abbrev pub invariant-loop-unit : goal.invariant-loop-unit
invariant-loop-unit l = All (HasNodes l.size) (take l.unit-index l.units)
