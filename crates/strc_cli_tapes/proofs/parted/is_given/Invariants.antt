use Rattle.std.proofs.Common.{◌≡◌, drop}
use Rattle.strc_cli_tapes.specs.Parted.{is_given}
use Rattle.strc_cli_tapes.proofs.parted.is_given.Given as goal

abbrev pub invariant-loop-other : goal.invariant-loop-other
invariant-loop-other l = is_given (drop l.other-index l.given) l.node ≡ is_given l.given l.node
