use Rattle.std.proofs.Common.{ℕ, ◌<◌, ◌≤◌, codes}
use Rattle.strc_lex.specs.Trivia.{Reads}
use Rattle.strc_lex.proofs.trivia.block_length.Given as goal

-- no `*/` is at the places that were passed
abbrev pub invariant-loop-close : goal.invariant-loop-close
invariant-loop-close l = (k : ℕ) → 2 ≤ k → k < l.close → Reads l.text k (codes "*/") → ⊥
