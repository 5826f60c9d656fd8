use Rattle.std.proofs.Common.{◌≡◌, ◌++◌, drop, map, slice_index}
use Rattle.strc_fiss.proofs.rounds.renamed_nodes.Given as goal

abbrev pub invariant-loop-node : goal.invariant-loop-node
invariant-loop-node l =
    l.renamed.items ++ map (slice_index l.bases) (drop l.node-index l.nodes)
    ≡ map (slice_index l.bases) l.nodes
