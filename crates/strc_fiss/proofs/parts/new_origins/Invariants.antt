use Rattle.std.proofs.Common.{◌≡◌}
use Rattle.strc_fiss.specs.Numbers.{share_at, each_part, origin_of}
use Rattle.strc_fiss.proofs.parts.new_origins.Given as goal

abbrev pub invariant-loop-node : goal.invariant-loop-node
invariant-loop-node l =
    l.origins.items ≡ each_part (share_at l.shares) (origin_of (share_at l.shares)) l.node
