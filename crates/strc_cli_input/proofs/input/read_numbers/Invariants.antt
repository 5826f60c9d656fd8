use Rattle.std.proofs.Common.{◌≡◌}
use Rattle.strc_cli_input.specs.ReadAnswers.{reading_of}
use Rattle.strc_cli_input.proofs.InputPieces.{HasRead}
use Rattle.strc_cli_input.proofs.input.read_numbers.Given as goal

abbrev pub invariant-loop-numbers : goal.invariant-loop-numbers
invariant-loop-numbers g l = record {
  read : HasRead (g.I.Source.remaining l.initial.input) (g.I.Source.remaining l.input)
      (reading_of l.numbers);
  steady : g.I.Source.has_failed l.input ≡ g.I.Source.has_failed l.initial.input;
}

abbrev pub decreases-loop-numbers : goal.decreases-loop-numbers
decreases-loop-numbers g l = g.I.Source.reads_left l.input
