-- Places of a text by what is written there.
use Rattle.std.specs.Prelude.{◌≡◌, ℕ, ◌-◌, ◌≤◌, ◌⊎◌, List, All, take, drop, length}
use Rattle.std.specs.Prelude.{Option, Some, None}
use Rattle.strc_lex_names.specs.declared.place.Span.{Span}
use Rattle.strc_lex.specs.declared.token.Token.{Token}

-- the bytes of a text from a place's start up to its end
abbrev pub between : List ℕ → Span → List ℕ
between text place = take (place.end - place.start) (drop place.start text)

-- the bytes between the ends of a place are these, and the place ends within the text
pub record Spells (text : List ℕ) (place : Span) (bytes : List ℕ) : Type 0 where
  pub within : place.end ≤ length text
  pub written : between text place ≡ bytes

-- none of a text's tokens is spelled so
abbrev pub IsUnwritten : List ℕ → List Token → List ℕ → Type 0
IsUnwritten text tokens bytes = All (λ token. Spells text token.span bytes → ⊥) tokens

-- what is marked where these bytes are sought: a place that they spell, unless no token of the text
-- is spelled so
abbrev pub Marks : List ℕ → List Token → List ℕ → Option Span → Type 0
Marks text tokens bytes None = IsUnwritten text tokens bytes
Marks text tokens bytes (Some place) = Spells text place bytes ⊎ IsUnwritten text tokens bytes

-- a place begins with these bytes, and ends within the text
pub record Begins (text : List ℕ) (place : Span) (bytes : List ℕ) : Type 0 where
  pub within : place.end ≤ length text
  pub written : take (length bytes) (between text place) ≡ bytes

-- what is marked where these bytes are sought at the start of a place: a place that begins with
-- them, unless no token of the text is spelled so
abbrev pub MarksFrom : List ℕ → List Token → List ℕ → Option Span → Type 0
MarksFrom text tokens bytes None = IsUnwritten text tokens bytes
MarksFrom text tokens bytes (Some place) = Begins text place bytes ⊎ IsUnwritten text tokens bytes
