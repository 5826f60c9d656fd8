-- What a message says of a token that can't stand where it is, and of a place.
use Rattle.std.specs.Prelude.{◌≡◌, ℕ, List, ◌++◌, codes, decimal, take, Bool, ◌||◌}
use Rattle.std.specs.Prelude.{Option, Some, None, slice_get}
use Rattle.strc_lex_names.specs.declared.place.Span.{Span}
use Rattle.strc_lex.specs.declared.token.Punctuation.TheVariants as marks
use Rattle.strc_lex.specs.declared.token.Token.{Token}
use Rattle.strc_lex.specs.declared.token.TokenKind.{TokenKind}
use Rattle.strc_cli_diagnostics.specs.Messages.{MessageView, hinting, with_more}
use Rattle.strc_cli_diagnostics.specs.Places.{IsPlace}
use Rattle.strc_cli_source.specs.Spelling.{between}
use Rattle.strc_cli_source.specs.Tokens.{is_mark}
use Rattle.strc_cli_diagnostics.specs.declared.place.Place.{Place}

-- a message goes on with some words, if any
abbrev pub GoesOn : (old new : MessageView) → Type 0
GoesOn old new = (more : List ℕ) × (new ≡ with_more old more)

-- how the sentence begins on a token, by its number, that can't stand where it is; past the last
-- one, on a text that ends too soon
abbrev pub words_of : (text : List ℕ) → Option Token → List ℕ
words_of text None = codes "the text ends too soon"
words_of text (Some token) =
    codes "`" ++ between text token.span ++ codes "`" ++ codes " can't stand here"

abbrev pub syntax_words : (text : List ℕ) → List Token → (number : ℕ) → List ℕ
syntax_words text tokens number = words_of text (slice_get tokens number)

-- a message with a hint, or as it is
abbrev pub with_hint : MessageView → Option (List ℕ) → MessageView
with_hint message None = message
with_hint message (Some words) = with_more (hinting message) words

-- a message goes on with a hint, or with nothing
abbrev pub GoesOnWithHint : (old new : MessageView) → Type 0
GoesOnWithHint old new = (hint : Option (List ℕ)) × (new ≡ with_hint old hint)

-- a place in words
abbrev pub place_words : Place → List ℕ
place_words place =
    codes ", in line " ++ decimal place.line ++ codes ", column " ++ decimal place.column

-- a message goes on with where a part of the text begins
abbrev pub GoesOnAt : (text : List ℕ) → Option Span → (old new : MessageView) → Type 0
GoesOnAt text None old new = new ≡ old
GoesOnAt text (Some part) old new = (place : Place)
    × IsPlace (take part.start text) place × (new ≡ with_more old (place_words place))

-- `&`, `^` and `|`
abbrev pub is_bitwise : TokenKind → Bool
is_bitwise kind = is_mark marks.And kind || is_mark marks.Caret kind || is_mark marks.Or kind
