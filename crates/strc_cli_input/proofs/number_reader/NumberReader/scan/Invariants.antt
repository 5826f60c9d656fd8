use Rattle.std.proofs.Common.{◌≡◌, ◌-◌, ℤ, List, length}
use Rattle.strc_cli_input.specs.NumberReading.{IsWithin, ScansTo}
use Rattle.strc_cli_input.proofs.number_reader.NumberReader.scan.Given as goal

-- no number has ended so far
abbrev pub invariant-loop-self : goal.invariant-loop-self
invariant-loop-self l = record {
  within : IsWithin l.self;
  count : l.self.count ≡ l.initial.self.count;
  ended : l.self.ended ≡ l.initial.self.ended;
  scanned : (numbers : List ℤ) → l.initial.self.count ≡ length numbers
      → ScansTo numbers numbers l.initial.self l.self;
}

abbrev pub decreases-loop-self : goal.decreases-loop-self
decreases-loop-self l = l.self.filled - l.self.next
