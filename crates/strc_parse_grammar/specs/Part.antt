-- What the steps after a kept value give.
use Rattle.std.specs.Prelude.{◌≡◌, ℕ, List, Result, Ok, Err}
use Rattle.std.specs.Borrow.{Bor}
use Rattle.strc_lex.specs.declared.token.Token.{Token}
use Rattle.strc_lex.specs.declared.token.TokenKind.{TokenKind}
use Rattle.strc_parse_grammar.specs.declared.error.Fault.{Fault}
use Rattle.strc_parse_grammar.specs.declared.error.ReadError.{ReadError}
use Rattle.strc_parse_grammar.specs.Grammar.{kinds}
use Rattle.strc_parse_grammar.specs.Reading.{Fails}
use Rattle.strc_parse_grammar.specs.declared.rule_result.Parsed.{Parsed}

-- the same part, and the height of the node that it becomes part of
abbrev pub Raises : {T : Type 0} → T → Result (T × ℕ) ReadError → Result ℕ Fault → Type 0
Raises part (Ok x) read = (x.0 ≡ part) × (read ≡ Ok x.1)
Raises part (Err e) read = Fails e read

-- the same part, and the tokens after what follows it
abbrev pub Goes : {T : Type 0} → T → Result (T × Bor (List Token)) ReadError
    → Result (List TokenKind) Fault → Type 0
Goes part (Ok x) read = (x.0 ≡ part) × (read ≡ Ok (kinds x.1.now))
Goes part (Err e) read = Fails e read

-- the same part, and what was read next
abbrev pub Holds : {T U : Type 0} → T → Result U ReadError → Result (T × U) ReadError → Type 0
Holds part next (Ok x) = (x.0 ≡ part) × (next ≡ Ok x.1)
Holds part next (Err e) = next ≡ Err e

-- the same, with the height of the node that it becomes part of
abbrev pub IsRaised : {T : Type 0} → Parsed T → Result (Parsed T) ReadError → Result ℕ Fault
    → Type 0
IsRaised part (Ok x) read = (x.value ≡ part.value) × (x.rest ≡ part.rest) × (read ≡ Ok x.height)
IsRaised part (Err e) read = Fails e read

-- the same, up to what follows it
abbrev pub IsClosed : {T : Type 0} → Parsed T → Result (Parsed T) ReadError
    → Result (List TokenKind) Fault → Type 0
IsClosed part (Ok x) read =
    (x.value ≡ part.value) × (x.height ≡ part.height) × (read ≡ Ok (kinds x.rest.now))
IsClosed part (Err e) read = Fails e read
