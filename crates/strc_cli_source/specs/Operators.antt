-- Which part of a statement that faults is marked: the operator that can fault so, where it has
-- just one; else its heading.
use Rattle.std.specs.Prelude.{ℕ, zero, suc, ◌-◌, ◌+◌, Bool, true, false, ◌&&◌, nat_le, List, []}
use Rattle.std.specs.Prelude.{◌∷◌, drop, position, slice_get, is_some, if◌then◌else◌}
use Rattle.std.specs.Prelude.{Option, Some, None}
use Rattle.std.specs.Option.{unwrap_or}
use Rattle.strc_lex_names.specs.declared.place.Span.{Span}
use Rattle.strc_lex.specs.declared.token.Keyword.TheVariants as keyword
use Rattle.strc_lex.specs.declared.token.Punctuation.{Punctuation}
use Rattle.strc_lex.specs.declared.token.Punctuation.TheVariants as mark
use Rattle.strc_lex.specs.declared.token.Token.{Token}
use Rattle.strc_lex.specs.declared.token.TokenKind.{TokenKind}
use Rattle.strc_lex.specs.declared.token.TokenKind.TheVariants as kind
use Rattle.strc_work_meaning.specs.declared.fault.Cause.{Cause}
use Rattle.strc_work_meaning.specs.declared.fault.Cause.TheVariants as cause
use Rattle.strc_cli_source.specs.Headings.{heading}
use Rattle.strc_cli_source.specs.Tokens.{is_keyword, is_mark}

abbrev pub is_division : Punctuation → Bool
is_division mark.Slash = true
is_division mark.Percent = true
is_division mark.SlashAssign = true
is_division mark.PercentAssign = true
is_division _ = false

-- an operator that can fault so
abbrev pub can_fault : Cause → TokenKind → Bool
can_fault cause.DivZero (kind.Punctuation found) = is_division found
can_fault cause.Index token = is_mark mark.OpenBracket token
can_fault cause.PeekRange token = is_keyword keyword.Peek token
can_fault _ _ = false

-- one in a place
abbrev pub can_fault_in : Cause → Span → Token → Bool
can_fault_in cause place token = nat_le place.start token.span.start
    && nat_le token.span.end place.end && can_fault cause token.kind

-- the number of the first token at which this holds, where it holds at no later one
abbrev pub only_after : (Token → Bool) → List Token → Option ℕ → Option ℕ
only_after holds tokens None = None
only_after holds tokens (Some first) =
    if is_some (position holds (drop (first + 1) tokens)) then None else Some first

abbrev pub only : (Token → Bool) → List Token → Option ℕ
only holds tokens = only_after holds tokens (position holds tokens)

-- how many square brackets are open after a token, of those that were before it
abbrev pub open_after : ℕ → TokenKind → ℕ
open_after brackets token = if is_mark mark.OpenBracket token then suc brackets
    else if is_mark mark.CloseBracket token then brackets - 1 else brackets

-- where the bracket ends that closes the first one of these tokens, so many being open before them
abbrev pub closing_end : ℕ → List Token → Option ℕ
closing_end brackets [] = None
closing_end brackets (token ∷ rest) =
    if nat_le brackets 1 && is_mark mark.CloseBracket token.kind then Some token.span.end
    else closing_end (open_after brackets token.kind) rest

-- the token before this one
abbrev pub token_before : List Token → ℕ → Option Token
token_before tokens zero = None
token_before tokens (suc number) = slice_get tokens number

abbrev pub from_to : Option Token → Option ℕ → Option Span
from_to (Some first) (Some end) = Some record { start = first.span.start; end = end }
from_to _ _ = None

-- the place of an operator; of the bracket of an element that of the element
abbrev pub operator_by : List Token → ℕ → Option Token → Option Span
operator_by tokens number None = None
operator_by tokens number (Some found) = if is_mark mark.OpenBracket found.kind
    then from_to (token_before tokens number) (closing_end 0 (drop number tokens))
    else Some found.span

abbrev pub operator_at : List Token → Option ℕ → Option Span
operator_at tokens None = None
operator_at tokens (Some number) = operator_by tokens number (slice_get tokens number)

abbrev pub faulting_part : List Token → Cause → (statement : Span) → Span
faulting_part tokens cause statement = unwrap_or
    (operator_at tokens (only (can_fault_in cause (heading statement tokens)) tokens))
    (heading statement tokens)
