-- Reading the token at the front of a text: what the scanner computes. `Text` says what a token is.
use Rattle.std.specs.Prelude.{ℕ, Bool, true, false, List, [], ◌∷◌, ◌+◌, length, drop, take_while}
use Rattle.std.specs.Prelude.{find, nat_le, nat_eq, codes, ◌||◌, Option, Some, None, if◌then◌else◌}
use Rattle.std.specs.Prelude.{◌==◌, ◌&&◌}
use Rattle.std.specs.List.{starts_with}
use Rattle.std.specs.Cmp.Lexicographic.{pointwise}
use Rattle.std.specs.Int.{w32, cast_signed}
use Rattle.strc_lex.specs.Characters.{is_digit, is_letter, is_name_byte, is_quote, is_string_byte}
use Rattle.strc_lex.specs.KeywordTexts.{keyword_text, all_keywords}
use Rattle.strc_lex.specs.PunctuationTexts.{punctuation_text, paired_punctuation}
use Rattle.strc_lex.specs.PunctuationTexts.{single_punctuation}
use Rattle.strc_lex.specs.Text.{number_from}
use Rattle.strc_lex.specs.declared.token.TokenKind.{TokenKind}
use Rattle.strc_lex.specs.declared.token.TokenKind.TheVariants.{Name, Number, Keyword, Punctuation}
use Rattle.strc_lex.specs.declared.token.TokenKind.TheVariants.{StringLiteral}
use Rattle.strc_lex.specs.declared.token.Keyword as keywords
use Rattle.strc_lex.specs.declared.token.Punctuation as punctuation

-- the keyword that the bytes are
abbrev pub keyword_of : List ℕ → Option keywords.Keyword
keyword_of bytes = find (λ w. pointwise nat_eq (keyword_text w) bytes) all_keywords

abbrev pub keyword_or_name : List ℕ → Option keywords.Keyword → TokenKind
keyword_or_name bytes None = Name bytes
keyword_or_name bytes (Some w) = Keyword w

-- a name or a keyword, and its length
abbrev pub name_at : List ℕ → TokenKind × ℕ
name_at text = let bytes = take_while is_name_byte text in
    (keyword_or_name bytes (keyword_of bytes), length bytes)

-- whether what is after a number parts it from the next token
abbrev pub ends_number : List ℕ → Bool
ends_number [] = true
ends_number (b ∷ rest) = if is_name_byte b then false else true

-- whether the digits have no needless 0 in front
abbrev pub is_plain : List ℕ → Bool
is_plain [] = false
is_plain (b ∷ bytes) = if b == 48 then nat_eq (length bytes) 0 else true

-- the number, where it isn't too great
abbrev pub bounded : ℕ → Option ℕ
bounded n = if nat_le n 2147483648 then Some n else None

abbrev pub number_with_length : ℕ → Option ℕ → Option (TokenKind × ℕ)
number_with_length len None = None
number_with_length len (Some n) = Some (Number (cast_signed w32 n), len)

abbrev pub number_at : List ℕ → Option (TokenKind × ℕ)
number_at text =
    let digits = take_while is_digit text in
    if is_plain digits && ends_number (drop (length digits) text)
    then number_with_length (length digits) (bounded (number_from 0 digits))
    else None

-- the punctuation at the front, the longer ones first
abbrev pub pair_of : List ℕ → Option punctuation.Punctuation
pair_of text = find (λ m. starts_with nat_eq text (punctuation_text m)) paired_punctuation

abbrev pub single_of : List ℕ → Option punctuation.Punctuation
single_of text = find (λ m. starts_with nat_eq text (punctuation_text m)) single_punctuation

abbrev pub or_single : List ℕ → Option punctuation.Punctuation → Option punctuation.Punctuation
or_single text None = single_of text
or_single text (Some m) = Some m

abbrev pub punctuation_of : List ℕ → Option punctuation.Punctuation
punctuation_of text = or_single text (pair_of text)

-- `/` is no punctuation mark where a comment begins
abbrev pub opens_comment : List ℕ → Bool
opens_comment text = starts_with nat_eq text (codes "//") || starts_with nat_eq text (codes "/*")

abbrev pub punctuation_with_length : Option punctuation.Punctuation → Option (TokenKind × ℕ)
punctuation_with_length None = None
punctuation_with_length (Some m) = Some (Punctuation m, length (punctuation_text m))

abbrev pub punctuation_at : List ℕ → Option (TokenKind × ℕ)
punctuation_at text =
    if opens_comment text then None
    else punctuation_with_length (punctuation_of text)

-- whether a quote comes first
abbrev pub is_closed : List ℕ → Bool
is_closed [] = false
is_closed (b ∷ rest) = is_quote b

-- the string at the front, whose opening quote is known to be there
abbrev pub string_at : List ℕ → Option (TokenKind × ℕ)
string_at [] = None
string_at (b ∷ rest) =
    let inner = take_while is_string_byte rest in
    if is_closed (drop (length inner) rest) then Some (StringLiteral inner, length inner + 2)
    else None

-- the token at the front of the text, and its length
abbrev pub token_at : List ℕ → Option (TokenKind × ℕ)
token_at [] = None
token_at (b ∷ rest) =
    if is_letter b then Some (name_at (b ∷ rest))
    else if is_digit b then number_at (b ∷ rest)
    else if is_quote b then string_at (b ∷ rest)
    else punctuation_at (b ∷ rest)
