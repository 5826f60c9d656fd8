use Rattle.std.proofs.Common.{ℕ, length, ◌-◌, ◌≤◌, drop}
use Rattle.strc_lex.specs.Trivia.{IsTrivia}
use Rattle.strc_lex.specs.Text.{LexesBetween}
use Rattle.strc_lex.proofs.lexer.lex.Given as goal

-- what was passed is trivia and the tokens so far, and no trivia of a run of trivia begins here
abbrev pub invariant-loop-at : goal.invariant-loop-at
invariant-loop-at l = record {
  front : LexesBetween l.text 0 l.tokens.items l.at;
  bare : (len : ℕ) → IsTrivia (drop l.at l.text) len → ⊥;
  within : l.at ≤ length l.text;
}

abbrev pub decreases-loop-at : goal.decreases-loop-at
decreases-loop-at l = length l.text - l.at
