-- The tokens of a text: trivia and tokens in turn, each token the longest that can be there.
use Rattle.std.specs.Prelude.{◌≡◌, ◌≢◌, ℕ, ◌+◌, ◌-◌, ◌*◌, ◌<◌, ◌≤◌, true, false, List, [], ◌∷◌}
use Rattle.std.specs.Prelude.{◌++◌, length, take, drop}
use Rattle.std.specs.List.{list_all}
use Rattle.std.specs.Int.{w32, cast_signed}
use Rattle.strc_lex.specs.Characters.{is_digit, is_letter, is_name_byte, is_string_byte}
use Rattle.strc_lex.specs.KeywordTexts.{keyword_text}
use Rattle.strc_lex.specs.PunctuationTexts.{punctuation_text}
use Rattle.strc_lex.specs.Trivia.{IsTrivia, IsTriviaRun}
use Rattle.strc_lex.specs.declared.lexer.TheConstants.{TEXT_LIMIT}
use Rattle.strc_lex.specs.declared.token.Token.{Token}
use Rattle.strc_lex.specs.declared.token.TokenKind.{TokenKind}
use Rattle.strc_lex.specs.declared.token.TokenKind.TheVariants.{Name, Number, Keyword, Punctuation}
use Rattle.strc_lex.specs.declared.token.TokenKind.TheVariants.{StringLiteral}
use Rattle.strc_lex.specs.declared.token.Keyword as keywords
use Rattle.strc_lex.specs.declared.token.Punctuation.TheVariants as punctuation

-- how long a text may be, in bytes
abbrev pub text_limit : ℕ
text_limit = TEXT_LIMIT

-- a letter or `_`, then letters, digits and `_`
abbrev pub IsNameText : List ℕ → Type 0
IsNameText [] = ⊥
IsNameText (b ∷ bytes) = (is_letter b ≡ true) × (list_all is_name_byte bytes ≡ true)

-- `0`, or digits that begin with another one
abbrev pub IsNumeral : List ℕ → Type 0
IsNumeral [] = ⊥
IsNumeral (b ∷ bytes) = (is_digit b ≡ true) × (list_all is_digit bytes ≡ true)
    × (b ≡ 48 → bytes ≡ [])

-- the number that these digits write after a higher part
abbrev pub number_from : ℕ → List ℕ → ℕ
number_from high [] = high
number_from high (b ∷ bytes) = number_from (10 * high + (b - 48)) bytes

-- the bytes are a token of this kind, wherever they are
abbrev pub IsLexeme : TokenKind → List ℕ → Type 0
IsLexeme (Name name) bytes = (name ≡ bytes) × IsNameText bytes
    × ((w : keywords.Keyword) → keyword_text w ≢ bytes)
IsLexeme (Number value) bytes = IsNumeral bytes × (number_from 0 bytes ≤ 2147483648)
    × (value ≡ cast_signed w32 (number_from 0 bytes))
IsLexeme (Keyword w) bytes = keyword_text w ≡ bytes
IsLexeme (Punctuation m) bytes = punctuation_text m ≡ bytes
IsLexeme (StringLiteral inner) bytes = (bytes ≡ 34 ∷ inner ++ 34 ∷ [])
    × (list_all is_string_byte inner ≡ true)

-- No digit, letter or `_` is right after a number. No `/` or `*` is right after `/`: a
-- comment begins there.
abbrev pub IsApart : TokenKind → List ℕ → Type 0
IsApart (Number value) (b ∷ rest) = is_name_byte b ≡ false
IsApart (Punctuation punctuation.Slash) (b ∷ rest) = (b ≢ 47) × (b ≢ 42)
IsApart kind rest = Unit {0}

-- the text begins with a token of this kind and length, and no longer lexeme
pub record IsToken (text : List ℕ) (kind : TokenKind) (len : ℕ) : Type 0 where
  pub within : len ≤ length text
  pub lexeme : IsLexeme kind (take len text)
  pub apart : IsApart kind (drop len text)
  pub longest : (other : TokenKind) (size : ℕ) → size ≤ length text
      → IsLexeme other (take size text) → size ≤ len

-- a token of the text is at its span
pub record IsAt (text : List ℕ) (item : Token) : Type 0 where
  pub ordered : item.span.start < item.span.end
  pub token : IsToken (drop item.span.start text) item.kind (item.span.end - item.span.start)

-- from one place up to another the text is trivia and these tokens in turn
abbrev pub LexesBetween : List ℕ → ℕ → List Token → ℕ → Type 0
LexesBetween text from [] to = IsTriviaRun text from to
LexesBetween text from (token ∷ tokens) to =
    IsTriviaRun text from token.span.start × IsAt text token
    × LexesBetween text token.span.end tokens to

-- the text is trivia and these tokens in turn
abbrev pub Lexes : List ℕ → List Token → Type 0
Lexes text tokens = LexesBetween text 0 tokens (length text)

-- at this place there is no white space, no comment begins that is closed, and no token begins
pub record IsStuck (text : List ℕ) (at : ℕ) : Type 0 where
  pub within : at < length text
  pub bare : (len : ℕ) → IsTrivia (drop at text) len → ⊥
  pub none : (kind : TokenKind) (len : ℕ) → IsToken (drop at text) kind len → ⊥

-- what is before the place is trivia and tokens, and no token goes on there
pub record StopsAt (text : List ℕ) (at : ℕ) : Type 0 where
  pub tokens : List Token
  pub front : LexesBetween text 0 tokens at
  pub stuck : IsStuck text at
