-- The source line of a place with a mark below it.
use Rattle.std.specs.Prelude.{ℕ, ◌-◌, ◌==◌, Bool, not, ◌&&◌, ◌||◌, nat_le, nat_lt, min}
use Rattle.std.specs.Prelude.{List, [], ◌++◌, codes, drop, filter, length, map, replicate}
use Rattle.std.specs.Prelude.{take, if◌then◌else◌, Option, Some, None}
use Rattle.strc_lex_names.specs.declared.place.Span.{Span}
use Rattle.strc_cli_diagnostics.specs.Places.{line_before, line_from}

-- how many bytes of a line are shown before its mark, and how many from it on
abbrev pub shown_limit : ℕ
shown_limit = 100

-- the last bytes of a line before a place, and the first ones from it on, as many as are shown
abbrev pub shown_before : (line : List ℕ) → List ℕ
shown_before line = drop (length line - shown_limit) line

abbrev pub shown_from : (line : List ℕ) → List ℕ
shown_from line = take shown_limit line

abbrev pub tab : ℕ
tab = 9

-- a byte as it is, but for a control character, which a terminal might obey: a question mark
abbrev pub shown : ℕ → ℕ
shown byte = if not (byte == tab) && (nat_lt byte 32 || byte == 127) then 63 else byte

-- UTF-8: a byte isn't inside of a character
abbrev pub begins_character : ℕ → Bool
begins_character byte = nat_lt byte 128 || nat_le 192 byte

-- as much room as these bytes take: a tab for a tab, and a space for another character
abbrev pub room_of : ℕ → ℕ
room_of byte = if byte == tab then tab else 32

abbrev pub room : List ℕ → List ℕ
room bytes = map room_of (filter begins_character bytes)

-- a mark of this length, at least of one
abbrev pub mark : ℕ → List ℕ
mark length = codes "^" ++ replicate (length - 1) 126

-- these parts of a line, and a mark of this length below them, on lines of their own
abbrev pub lines : (before from : List ℕ) (length : ℕ) → List ℕ
lines before from length =
    codes "\n    " ++ map shown before ++ map shown from ++ codes "\n    " ++ room before
    ++ mark length

-- the line of a place; the mark ends where the line does
abbrev pub excerpt : (text : List ℕ) → Span → List ℕ
excerpt text place =
    let from = shown_from (line_from text place.start) in
    lines (shown_before (line_before text place.start)) from
    (min (place.end - place.start) (length from))

-- the same where there is a place
abbrev pub excerpt_at : (text : List ℕ) → Option Span → List ℕ
excerpt_at text None = []
excerpt_at text (Some place) = excerpt text place
