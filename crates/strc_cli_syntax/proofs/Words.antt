-- Messages that go on, piece by piece.
use Rattle.std.proofs.Common.{◌≡◌, ◌∙◌, ap, sym, ℕ, List, [], ◌++◌, Option, Some, None}
use Rattle.std.proofs.Common.{Result, Ok, Err}
use Rattle.std.specs.Prelude.{OnOk, codes, decimal, slice_get, take}
use Rattle.strc_lex_names.specs.declared.place.Span.{Span}
use Rattle.strc_lex.specs.declared.token.Token.{Token}
use Rattle.strc_cli_diagnostics.proofs.Messages.{more_in_two, no_more}
use Rattle.strc_cli_diagnostics.specs.Messages.{MessageView, hinting, with_more}
use Rattle.strc_cli_diagnostics.specs.Places.{IsPlace}
use Rattle.strc_cli_source.specs.Spelling.{between}
use Rattle.strc_cli_diagnostics.specs.declared.place.Place.{Place}
use Rattle.strc_cli_syntax.specs.Words.{GoesOn, GoesOnAt, GoesOnWithHint, place_words}
use Rattle.strc_cli_syntax.specs.Words.{syntax_words, words_of}

-- a hint begins, and then comes what it says
pub hinted : (old between new : MessageView) (words : List ℕ) → between ≡ hinting old
    → new ≡ with_more between words → GoesOnWithHint old new
hinted old between new words first later =
    (Some words, later ∙ ap (λ (m : MessageView). with_more m words) first)

-- a hint in two pieces, and in three
pub hinted_in_two : (old between then new : MessageView) (words more : List ℕ)
    → between ≡ hinting old → then ≡ with_more between words → new ≡ with_more then more
    → GoesOnWithHint old new
hinted_in_two old between then new words more first second third =
    hinted old between new (words ++ more) first
    (more_in_two between then new words more second third)

pub hinted_in_three : (old between then after new : MessageView) (words number more : List ℕ)
    → between ≡ hinting old → then ≡ with_more between words → after ≡ with_more then number
    → new ≡ with_more after more → GoesOnWithHint old new
hinted_in_three old between then after new words number more first second third fourth =
    hinted_in_two old between then new words (number ++ more) first second
    (more_in_two then after new number more third fourth)

-- where a part of a text begins, in four pieces
pub at_place : (text : List ℕ) (part : Span) (place : Place)
    (old first then later new : MessageView) → IsPlace (take part.start text) place
    → first ≡ with_more old (codes ", in line ")
    → then ≡ with_more first (decimal place.line) → later ≡ with_more then (codes ", column ")
    → new ≡ with_more later (decimal place.column) → GoesOnAt text (Some part) old new
at_place text part place old first then later new is one two three four =
    let line = codes ", in line " ++ decimal place.line in (
      place,
      is,
      more_in_two old later new (line ++ codes ", column ") (decimal place.column)
          (more_in_two old then later line (codes ", column ")
          (more_in_two old first then (codes ", in line ") (decimal place.line) one two) three)
          four,
    )

-- a hint that ends with a place
pub hinted_at : {E : Type 0} (text : List ℕ) (part : Span) (result : Result (Unit {0}) E)
    (old between then new : MessageView) (words : List ℕ) → between ≡ hinting old
    → then ≡ with_more between words → OnOk result (GoesOnAt text (Some part) then new)
    → OnOk result (GoesOnWithHint old new)
hinted_at text part (Ok done) old between then new words first second (place, is_place, at) =
    hinted_in_two old between then new words (place_words place) first second at
hinted_at text part (Err error) old between then new words first second at = tt

-- what is said after what was said
pub goes_further : (old between new : MessageView) (words : List ℕ) → GoesOn old between
    → new ≡ with_more between words → GoesOn old new
goes_further old between new words (more, first) later =
    (more ++ words, more_in_two old between new more words first later)

pub goes_same : (old between new : MessageView) → GoesOn old between → new ≡ between
    → GoesOn old new
goes_same old between new (more, first) same = (more, same ∙ first)

pub goes_nowhere : (old : MessageView) → GoesOn old old
goes_nowhere old = ([], sym (no_more old))

-- a token in quotes, and then what is said of it
pub quoted_first : (old first new : MessageView) (name after : List ℕ)
    → first ≡ with_more old (codes "`" ++ name ++ codes "`") → new ≡ with_more first after
    → new ≡ with_more old (codes "`" ++ name ++ codes "`" ++ after)
quoted_first old first new name after quoted later =
    more_in_two old first new (codes "`" ++ name ++ codes "`") after quoted later

-- how the sentence begins where there is such a token, and where there is none
pub found_words : (text : List ℕ) (tokens : List Token) (number : ℕ) (token : Token)
    → slice_get tokens number ≡ Some token
    → codes "`" ++ between text token.span ++ codes "`" ++ codes " can't stand here"
    ≡ syntax_words text tokens number
found_words text tokens number token at =
    ap (λ (found : Option Token). words_of text found) (sym at)

pub missing_words : (text : List ℕ) (tokens : List Token) (number : ℕ)
    → slice_get tokens number ≡ None
    → codes "the text ends too soon" ≡ syntax_words text tokens number
missing_words text tokens number at =
    ap (λ (found : Option Token). words_of text found) (sym at)
