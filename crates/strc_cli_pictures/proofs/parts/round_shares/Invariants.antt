use Rattle.std.proofs.Common.{◌≡◌, map}
use Rattle.std.specs.List.{range_with_len}
use Rattle.strc_cli_pictures.specs.Parts.{share_at, round_share}
use Rattle.strc_cli_pictures.proofs.parts.round_shares.Given as goal

abbrev pub invariant-loop-number : goal.invariant-loop-number
invariant-loop-number l =
    l.shares.items
    ≡ map (share_at round_share l.nodes l.origins l.counts) (range_with_len 0 l.number)
