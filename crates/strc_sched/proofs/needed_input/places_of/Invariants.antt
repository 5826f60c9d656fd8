use Rattle.std.proofs.Common.{◌≡◌, ◌≤◌, take}
use Rattle.strc_sched_orders.specs.Order.{firing_count}
use Rattle.strc_sched.proofs.needed_input.places_of.Given as goal

abbrev pub invariant-loop-other : goal.invariant-loop-other
invariant-loop-other l = record {
  places : l.places ≡ firing_count (take l.other-index l.nodes) l.node;
  few : l.places ≤ l.other-index;
}
