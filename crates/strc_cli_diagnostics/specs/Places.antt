-- Places in a text, as editors count them.
use Rattle.std.specs.Prelude.{◌≡◌, ℕ, suc, ◌-◌, ◌==◌, Bool, not, List, drop, length, reverse}
use Rattle.std.specs.Prelude.{take, take_while, Option, Some, None}
use Rattle.memchr.specs.Find.{IsLastByte, is_byte, places}
use Rattle.strc_cli_diagnostics.specs.declared.place.Place.{Place}

-- a byte that ends a line
abbrev pub line_feed : ℕ
line_feed = 10

-- how many bytes are after a text's last line feed, and one
abbrev pub next_column : List ℕ → (last : Option ℕ) → ℕ
next_column text None = suc (length text)
next_column text (Some place) = length text - place

-- what follows this text is on this line, in this column, both counted from 1
pub record IsPlace (before : List ℕ) (place : Place) : Type 0 where
  pub line : place.line ≡ suc (length (places (is_byte line_feed) before))
  pub last : Option ℕ
  pub is_last : IsLastByte (is_byte line_feed) before last
  pub column : place.column ≡ next_column before last

-- a byte that doesn't end a line
abbrev pub is_in_line : ℕ → Bool
is_in_line byte = not (byte == line_feed)

-- the bytes of a line before a byte of a text, and those from it on
abbrev pub line_before : (text : List ℕ) → (at : ℕ) → List ℕ
line_before text at = reverse (take_while is_in_line (reverse (take at text)))

abbrev pub line_from : (text : List ℕ) → (at : ℕ) → List ℕ
line_from text at = take_while is_in_line (drop at text)
