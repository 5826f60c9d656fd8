use Rattle.std.proofs.Common.{ℕ, None, Some, ◌∙◌, sym, ap}
use Rattle.std.specs.Option.{option_copied}
use Rattle.strc_lex.specs.Trivia.{IsBlank}
use Rattle.strc_lex.proofs.TriviaRuns.{first_black, trivia_none}
use Rattle.strc_lex.proofs.trivia.trivia_length.Goals as goal
use Rattle.strc_lex.proofs.trivia.trivia_length.Goals.{in_default-via-in-Some+else-is_white}
use Rattle.strc_lex.proofs.trivia.trivia_length.Goals.{in_default-via-in_default}

pub returns-in_default-clause-none : goal.returns-in_default-clause-none
returns-in_default-clause-none c =
    let text = c.args.text.now in
    let black : (len : ℕ) → IsBlank text len → ⊥ = elim c.in_default.branch [
      | in_default-via-in-Some+else-is_white w ↦
          first_black text (Some w.in-Some.byte.now)
          (sym (ap option_copied w.in-Some.is) ∙ c.first.ensures.value)
          (sym w.is_white.ensures ∙ w.if-is_white.false)
      | in_default-via-in_default w ↦ first_black text None
          (sym (ap option_copied w.in_default.is) ∙ c.first.ensures.value) tt
    ] in
    trivia_none text c.comment_length.result black c.comment_length.ensures.none
