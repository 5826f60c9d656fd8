use Rattle.std.proofs.Common.{◌≤◌}
use Rattle.strc_cli_pictures.proofs.times.leading_number.Given as goal

-- the digits so far are within the text
abbrev pub invariant-loop-byte : goal.invariant-loop-byte
invariant-loop-byte l = l.count ≤ l.byte-index
