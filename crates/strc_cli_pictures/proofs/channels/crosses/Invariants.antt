use Rattle.std.proofs.Common.{◌≡◌, drop}
use Rattle.std.specs.List.{list_any}
use Rattle.strc_cli_pictures.specs.Pictures.{is_between, crosses}
use Rattle.strc_cli_pictures.proofs.channels.crosses.Given as goal

-- no bound so far is between the channel's ends
abbrev pub invariant-loop-bound : goal.invariant-loop-bound
invariant-loop-bound l =
    list_any (is_between l.channel.source.node l.channel.target.node) (drop l.bound-index l.bounds)
    ≡ crosses l.bounds l.channel
