use Rattle.std.proofs.Common.{◌≡◌, ◌++◌, drop, map}
use Rattle.strc_cli_tapes.specs.Parted.{staying_from}
use Rattle.strc_cli_tapes.proofs.parted.staying.Given as goal

-- the tapes so far and those of what is left are those of all
abbrev pub invariant-loop-number : goal.invariant-loop-number
invariant-loop-number l =
    map (λ it. (it.number, it.tape.now)) l.all.items
    ++ staying_from l.given l.number (drop l.number l.tapes) ≡ staying_from l.given 0 l.tapes
