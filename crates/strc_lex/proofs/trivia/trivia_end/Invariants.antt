use Rattle.std.proofs.Common.{length, ◌-◌}
use Rattle.strc_lex.specs.Trivia.{IsTriviaRun}
use Rattle.strc_lex.proofs.trivia.trivia_end.Given as goal

-- what was passed is a run of trivia
abbrev pub invariant-loop-len : goal.invariant-loop-len
invariant-loop-len l = IsTriviaRun l.text l.from l.at

abbrev pub decreases-loop-len : goal.decreases-loop-len
decreases-loop-len l = length l.text - l.at
