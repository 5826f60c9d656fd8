-- What is between tokens: white space and comments.
use Rattle.std.specs.Prelude.{◌≡◌, ◌≢◌, ℕ, ◌+◌, ◌<◌, ◌≤◌, true, List, [], ◌∷◌, length, take, drop}
use Rattle.std.specs.Prelude.{slice_index, codes, ◌⊎◌}
use Rattle.strc_lex.specs.Characters.{is_white}

-- at this place the text goes on with these bytes
abbrev pub Reads : List ℕ → ℕ → List ℕ → Type 0
Reads text at bytes = take (length bytes) (drop at text) ≡ bytes

-- `//`, and the rest of the line: up to a line feed, or to the end of the text
pub record IsLineComment (text : List ℕ) (len : ℕ) : Type 0 where
  pub opens : Reads text 0 (codes "//")
  pub within : len ≤ length text
  pub line : (k : ℕ) → k < len → slice_index text k ≢ 10
  pub ends : len < length text → slice_index text len ≡ 10

-- `/*`, and what follows, with the first `*/` after it
pub record IsBlockComment (text : List ℕ) (len : ℕ) : Type 0 where
  pub opens : Reads text 0 (codes "/*")
  pub close : ℕ
  pub past : 2 ≤ close
  pub closes : Reads text close (codes "*/")
  pub first : (k : ℕ) → 2 ≤ k → k < close → Reads text k (codes "*/") → ⊥
  pub ends : len ≡ close + 2

-- the text begins with a comment of this length
abbrev pub IsComment : List ℕ → ℕ → Type 0
IsComment text len = IsLineComment text len ⊎ IsBlockComment text len

-- the text begins with white space of one byte
abbrev pub IsBlank : List ℕ → ℕ → Type 0
IsBlank [] len = ⊥
IsBlank (b ∷ rest) len = (is_white b ≡ true) × (len ≡ 1)

-- the text begins with trivia: a byte of white space, or a comment
abbrev pub IsTrivia : List ℕ → ℕ → Type 0
IsTrivia text len = IsBlank text len ⊎ IsComment text len

-- from one place up to another are trivia of these lengths
abbrev pub AreTrivia : List ℕ → ℕ → List ℕ → ℕ → Type 0
AreTrivia text from [] to = from ≡ to
AreTrivia text from (len ∷ lens) to = IsTrivia (drop from text) len
    × AreTrivia text (from + len) lens to

-- from one place up to another the text is white space and comments
pub record IsTriviaRun (text : List ℕ) (from to : ℕ) : Type 0 where
  pub within : to ≤ length text
  pub lengths : List ℕ
  pub trivia : AreTrivia text from lengths to
