-- Where in a text tokens are.
use Rattle.std.specs.Prelude.{◌-◌, List, take, length, Option, Some, None, slice_get}
use Rattle.strc_lex_names.specs.declared.place.Span.{Span}
use Rattle.strc_lex.specs.declared.token.Token.{Token}

-- of tokens those before the ones that follow them
abbrev pub before : (tokens rest : List Token) → List Token
before tokens rest = take (length tokens - length rest) tokens

-- from the start of the first token to the end of the last one
abbrev pub between : (first last : Option Token) → Span
between (Some first) (Some last) = record { start = first.span.start; end = last.span.end }
between _ _ = record { start = 0; end = 0 }

abbrev pub span_of : List Token → Span
span_of tokens = between (slice_get tokens 0) (slice_get tokens (length tokens - 1))
