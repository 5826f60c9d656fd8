use Rattle.std.proofs.Common.{◌≡◌, ℕ, ◌<◌, true}
use Rattle.strc_balance.specs.NumberSets.{has_number, AllNumbers}
use Rattle.strc_startup.proofs.prime_counts.all_nodes.Given as goal

abbrev pub invariant-loop-node : goal.invariant-loop-node
invariant-loop-node l = record {
  all : (node : ℕ) → node < l.node → has_number l.nodes node ≡ true;
  numbers : AllNumbers (λ node. node < l.node) l.nodes;
}
