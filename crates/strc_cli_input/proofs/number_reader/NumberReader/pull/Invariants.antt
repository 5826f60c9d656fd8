use Rattle.std.proofs.Common.{◌≡◌, ℕ, ℤ, List, Option}
use Rattle.strc_cli_input.specs.NumberReading.{HasPulled, IsWithin}
use Rattle.strc_cli_input.proofs.number_reader.NumberReader.pull.Given as goal

-- no number has ended so far
abbrev pub invariant-loop-self : goal.invariant-loop-self
invariant-loop-self g l = record {
  within : IsWithin l.self;
  count : l.self.count ≡ l.initial.self.count;
  pulled : (first : Option (List ℕ)) (numbers : List ℤ)
      → HasPulled first (g.I.Source.remaining l.initial.input) numbers l.initial.self
      → HasPulled first (g.I.Source.remaining l.input) numbers l.self;
  steady : g.I.Source.has_failed l.input ≡ g.I.Source.has_failed l.initial.input;
}

abbrev pub decreases-loop-self : goal.decreases-loop-self
decreases-loop-self g l = g.I.Source.reads_left l.input
