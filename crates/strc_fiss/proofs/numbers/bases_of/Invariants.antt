use Rattle.std.proofs.Common.{◌≡◌, ◌≤◌}
use Rattle.strc_fiss.specs.Numbers.{node_limit, up_to, share_at, base}
use Rattle.strc_fiss.proofs.numbers.bases_of.Given as goal

abbrev pub invariant-loop-share : goal.invariant-loop-share
invariant-loop-share l =
    (l.bases.items ≡ up_to (base (share_at l.shares)) l.share-index)
    × (l.next ≡ base (share_at l.shares) l.share-index)
    × (base (share_at l.shares) l.share-index ≤ node_limit)
