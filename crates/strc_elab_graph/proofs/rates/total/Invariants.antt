use Rattle.std.proofs.Common.{◌≡◌, ◌≤◌, ◌*◌, ◌^◌, take, sum}
use Rattle.strc_elab_graph.proofs.rates.total.Given as goal

abbrev pub invariant-loop-weight : goal.invariant-loop-weight
invariant-loop-weight l = record {
  sum_is : l.total ≡ sum (take l.weight-index l.weights);
  bound : l.total ≤ l.weight-index * 2 ^ 32;
}
