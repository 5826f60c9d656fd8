use Rattle.std.proofs.Common.{◌<◌, take, All}
use Rattle.strc_tests_plans.proofs.sizes.are_below.Given as goal

abbrev pub invariant-loop-node : goal.invariant-loop-node
invariant-loop-node l = All (λ node. node < l.size) (take l.node-index l.nodes)
