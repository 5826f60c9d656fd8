use Rattle.std.proofs.Common.{◌≡◌, ◌≤◌, ◌*◌, ◌^◌, take, sum}
use Rattle.strc_sched_rings.proofs.movers.cycle_length.Given as goal

abbrev pub invariant-loop-weight : goal.invariant-loop-weight
invariant-loop-weight l = record {
  sum_is : l.length ≡ sum (take l.weight-index l.weights);
  bound : l.length ≤ l.weight-index * 2 ^ 32;
}
