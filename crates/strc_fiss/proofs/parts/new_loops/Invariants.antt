use Rattle.std.proofs.Common.{◌≡◌, length}
use Rattle.strc_fiss.specs.Numbers.{share_at, each_part}
use Rattle.strc_fiss.specs.Splitting.{new_loop}
use Rattle.strc_fiss.proofs.parts.new_loops.Given as goal

abbrev pub invariant-loop-node : goal.invariant-loop-node
invariant-loop-node l =
    l.loops.items
    ≡ each_part (share_at l.shares)
    (new_loop (share_at l.shares) (length l.graph.nodes) l.graph.outer_loops) l.node
