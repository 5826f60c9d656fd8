use Rattle.std.proofs.Common.{◌≡◌, None, drop}
use Rattle.strc_cli_pictures.specs.Boxes.{with_shares}
use Rattle.strc_cli_pictures.proofs.boxes.sum_of_shares.Given as goal

-- the shares left, added to those so far
abbrev pub invariant-loop-share : goal.invariant-loop-share
invariant-loop-share l =
    with_shares l.sum (drop l.share-index l.shares) ≡ with_shares None l.shares
