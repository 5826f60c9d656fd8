use Rattle.std.proofs.Common.{ℕ, List, length, subst, rules}
use Rattle.std.proofs.lemmas.Slice.{between_to_end}
use Rattle.strc_lex.specs.Trivia.{IsTrivia}
use Rattle.strc_lex.proofs.TriviaRuns.{trivia_run_push}
use Rattle.strc_lex.proofs.trivia.trivia_end.Goals as goal

pub loop-len-preserved : goal.loop-len-preserved
loop-len-preserved c =
    let text = c.args.text.now in
    let at = c.loop-len.at in
    let trivia = subst (λ (bytes : List ℕ). IsTrivia bytes c.in-Some.len)
    (between_to_end text at (length text) (search rules)) c.in-Some.ensures.found.0 in
    trivia_run_push text c.args.from at c.in-Some.len c.loop-len.invariant trivia

pub returns-clause-bare : goal.returns-clause-bare
returns-clause-bare c = let text = c.args.text.now in
    subst (λ (bytes : List ℕ). (len : ℕ) → IsTrivia bytes len → ⊥)
    (between_to_end text c.loop-len.at (length text) (search rules)) c.in_default.ensures.none
