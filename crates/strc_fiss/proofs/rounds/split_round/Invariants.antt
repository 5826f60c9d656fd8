use Rattle.std.proofs.Common.{◌≡◌, ◌++◌, drop}
use Rattle.strc_fuse.specs.Units.{round_units}
use Rattle.strc_fiss.specs.Numbers.{share_at}
use Rattle.strc_fiss.specs.Units.{split_units}
use Rattle.strc_fiss.proofs.rounds.split_round.Given as goal

abbrev pub invariant-loop-unit : goal.invariant-loop-unit
invariant-loop-unit l =
    round_units l.units.items ++ split_units (share_at l.shares)
    (round_units (drop l.unit-index l.round))
    ≡ split_units (share_at l.shares) (round_units l.round)
