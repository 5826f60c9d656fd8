-- What single tokens are, and which of a text's tokens are in a place.
use Rattle.std.specs.Prelude.{ℕ, Bool, false, ◌&&◌, nat_le, nat_lt, List, filter, find, reverse}
use Rattle.std.specs.Prelude.{take_while, Option}
use Rattle.std.specs.Option.{option_map}
use denote.Enum.Bare.{sameb}
use Rattle.strc_lex_names.specs.declared.place.Span.{Span}
use Rattle.strc_lex.specs.contracts.token.Keyword.{the_type as keyword_type}
use Rattle.strc_lex.specs.contracts.token.Punctuation.{the_type as punctuation_type}
use Rattle.strc_lex.specs.declared.token.Keyword.{Keyword}
use Rattle.strc_lex.specs.declared.token.Punctuation.{Punctuation}
use Rattle.strc_lex.specs.declared.token.Token.{Token}
use Rattle.strc_lex.specs.declared.token.TokenKind.{TokenKind}
use Rattle.strc_lex.specs.declared.token.TokenKind.TheVariants as kind

abbrev pub is_keyword : Keyword → TokenKind → Bool
is_keyword wanted (kind.Keyword found) = sameb keyword_type found wanted
is_keyword wanted _ = false

abbrev pub is_mark : Punctuation → TokenKind → Bool
is_mark wanted (kind.Punctuation found) = sameb punctuation_type found wanted
is_mark wanted _ = false

-- the place of the last such keyword that begins before this byte
abbrev pub keyword_before : ℕ → Keyword → List Token → Option Span
keyword_before at keyword tokens = option_map (λ t. t.span)
    (find (λ t. nat_lt t.span.start at && is_keyword keyword t.kind) (reverse tokens))

-- the tokens from the start of a place on, up to the first that ends after it
abbrev pub tokens_in : Span → List Token → List Token
tokens_in place tokens = take_while (λ t. nat_le t.span.end place.end)
    (filter (λ t. nat_le place.start t.span.start) tokens)
