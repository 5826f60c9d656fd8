-- What a program reads of a message: a line of JSON.
use Rattle.std.specs.Prelude.{◌≡◌, ℕ, List, [], ◌∷◌, ◌++◌, codes, decimal, take}
use Rattle.std.specs.Prelude.{Option, Some, None}
use Rattle.std.specs.Str.Lossy.{utf8_lossy}
use Rattle.json.specs.Print.{print}
use Rattle.json.specs.Token.{Token, begin_object, end_object, key, null, number, string}
use Rattle.json.specs.Written.{Written}
use Rattle.strc_lex_names.specs.declared.place.Span.{Span}
use Rattle.strc_cli_diagnostics.specs.Messages.{MessageView, subject}
use Rattle.strc_cli_diagnostics.specs.Places.{IsPlace}
use Rattle.strc_cli_diagnostics.specs.declared.message_json.Severity.{Severity}
use Rattle.strc_cli_diagnostics.specs.declared.message_json.Severity.TheVariants as severity
use Rattle.strc_cli_diagnostics.specs.declared.place.Place.{Place}

abbrev pub severity_word : Severity → List ℕ
severity_word severity.Error = codes "error"
severity_word severity.Warning = codes "warning"

-- a member of an object
abbrev pub text_member : (name text : List ℕ) → List Token
text_member name text = key name ∷ string (utf8_lossy text) ∷ []

abbrev pub number_member : (name : List ℕ) → (value : ℕ) → List Token
number_member name value = key name ∷ number (decimal value) ∷ []

abbrev pub null_member : (name : List ℕ) → List Token
null_member name = key name ∷ null ∷ []

-- the bytes of a part of a text, and where it begins
abbrev pub part_tokens : Span → Place → List Token
part_tokens part place =
    number_member (codes "start") part.start ++ number_member (codes "end") part.end
    ++ number_member (codes "line") place.line ++ number_member (codes "column") place.column

abbrev pub no_part_tokens : List Token
no_part_tokens = null_member (codes "start") ++ null_member (codes "end")
    ++ null_member (codes "line") ++ null_member (codes "column")

-- where a part of a text is, if there is one
abbrev pub ArePlaceTokens : (text : List ℕ) → Option Span → List Token → Type 0
ArePlaceTokens text None tokens = tokens ≡ no_part_tokens
ArePlaceTokens text (Some part) tokens = (place : Place) × IsPlace (take part.start text) place
    × (tokens ≡ part_tokens part place)

abbrev pub hint_tokens : Option (List ℕ) → List Token
hint_tokens None = null_member (codes "hint")
hint_tokens (Some words) = text_member (codes "hint") words

-- the line of a message: the file, the part of the text, how grave it is, a code, the sentence and
-- the hint
pub record IsMessageJson (file text : List ℕ) (severity : Severity) (code : List ℕ)
    (message : MessageView) (written : List ℕ) : Type 0 where
  pub place : List Token
  pub is_place : ArePlaceTokens text message.place place
  pub whole : written ≡ print (begin_object ∷ (text_member (codes "file")
      (subject file message.kind) ++ place
      ++ text_member (codes "severity") (severity_word severity)
      ++ text_member (codes "code") code ++ text_member (codes "message") message.sentence
      ++ hint_tokens message.hint ++ end_object ∷ [])) ++ codes "\n"

-- these tokens are written after what was written
pub record AddsTokens (tokens : List Token) (old new : Written) : Type 0 where
  pub before : new.before ≡ old.before
  pub added : new.tokens ≡ old.tokens ++ tokens

-- so are those that say where a part of a text is
abbrev pub PlacesTokens : (text : List ℕ) → Option Span → (old new : Written) → Type 0
PlacesTokens text part old new =
    (tokens : List Token) × ArePlaceTokens text part tokens × AddsTokens tokens old new
