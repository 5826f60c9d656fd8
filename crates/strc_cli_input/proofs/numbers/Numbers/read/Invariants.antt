use Rattle.std.proofs.Common.{◌≡◌, drop}
use Rattle.strc_cli_input.specs.Reading.{bytes_read}
use Rattle.strc_cli_input.specs.ReadAnswers.{reading_of}
use Rattle.strc_cli_input.proofs.numbers.Numbers.read.Given as goal

abbrev pub invariant-loop-byte : goal.invariant-loop-byte
invariant-loop-byte l = bytes_read (reading_of l.self) (drop l.byte-index l.bytes)
    ≡ bytes_read (reading_of l.initial.self) l.initial.bytes
