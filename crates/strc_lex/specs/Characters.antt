-- Which bytes are white space, digits, and parts of names and strings.
use Rattle.std.specs.Prelude.{ℕ, Bool, ◌==◌, ◌&&◌, ◌||◌, not, nat_le}

-- tab, line feed, form feed, carriage return, space
abbrev pub is_white : ℕ → Bool
is_white b = b == 9 || b == 10 || b == 12 || b == 13 || b == 32

abbrev pub is_digit : ℕ → Bool
is_digit b = nat_le 48 b && nat_le b 57

-- a letter or `_`
abbrev pub is_letter : ℕ → Bool
is_letter b = nat_le 97 b && nat_le b 122 || nat_le 65 b && nat_le b 90 || b == 95

-- what a name goes on with
abbrev pub is_name_byte : ℕ → Bool
is_name_byte b = is_letter b || is_digit b

-- what opens and closes a string
abbrev pub is_quote : ℕ → Bool
is_quote b = b == 34

-- what a string has between its quotes: all but `"`, backslash and line feed
abbrev pub is_string_byte : ℕ → Bool
is_string_byte b = not (b == 34 || b == 92 || b == 10)
