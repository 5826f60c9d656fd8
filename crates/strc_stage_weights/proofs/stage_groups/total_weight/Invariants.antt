use Rattle.std.proofs.Common.{◌≡◌, take, sum}
use Rattle.strc_stage_weights.proofs.stage_groups.total_weight.Given as goal

abbrev pub invariant-loop-weight : goal.invariant-loop-weight
invariant-loop-weight l = l.total ≡ sum (take l.weight-index l.weights)
