use Rattle.std.proofs.Common.{◌≡◌, take}
use Rattle.strc_sched_orders.specs.Greedy.{firings_of}
use Rattle.strc_sched_orders.specs.Order.{firing_count}
use Rattle.strc_sched.proofs.needed_input.firings_of.Given as goal

abbrev pub invariant-loop-unit : goal.invariant-loop-unit
invariant-loop-unit l = l.firings ≡ firing_count (firings_of (take l.unit-index l.units)) l.node
