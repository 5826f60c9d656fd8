use Rattle.std.proofs.Common.{◌≡◌, ◌≤◌, ◌+◌, ◌-◌, ◌++◌, ℕ, ℤ, List, Option, length}
use Rattle.strc_cli_input.specs.NumberReading.{HasPulled, IsWithin}
use Rattle.strc_cli_input.proofs.number_reader.NumberReader.fill.Given as goal

-- the numbers so far are in the window
abbrev pub invariant-loop-self : goal.invariant-loop-self
invariant-loop-self g l = record {
  within : IsWithin l.self;
  most : length l.window.items ≤ l.need;
  count : l.self.count ≡ l.fn.self.count + length l.window.items;
  pulled : (first : Option (List ℕ)) (numbers : List ℤ)
      → HasPulled first (g.I.Source.remaining l.fn.input) numbers l.fn.self
      → HasPulled first (g.I.Source.remaining l.input) (numbers ++ l.window.items) l.self;
  steady : g.I.Source.has_failed l.input ≡ g.I.Source.has_failed l.fn.input;
}

abbrev pub decreases-loop-self : goal.decreases-loop-self
decreases-loop-self g l = l.need - length l.window.items
