-- Which program a text spells, and which texts spell none.
use Rattle.std.specs.Prelude.{◌≡◌, ℕ, ◌<◌, ◌≤◌, List, length}
use Rattle.strc_lex.specs.Text.{Lexes, StopsAt, text_limit}
use Rattle.strc_lex.specs.declared.token.Token.{Token}
use Rattle.strc_parse_tree.specs.Tree.{Declaration}
use Rattle.strc_parse_grammar.specs.Grammar.{Parses, Refuses, kinds}
use Rattle.strc_parse_grammar.specs.declared.error.ParseError.{ParseError}
use Rattle.strc_parse_grammar.specs.declared.error.ParseError.TheVariants as refused

-- the text isn't too long, and these are its tokens
pub record HasTokens (text : List ℕ) (tokens : List Token) : Type 0 where
  pub short : length text ≤ text_limit
  pub lexes : Lexes text tokens

-- the text spells this program: its tokens are the program's
pub record Spells (text : List ℕ) (program : List Declaration) : Type 0 where
  pub tokens : List Token
  pub has_tokens : HasTokens text tokens
  pub parses : Parses (kinds tokens) program

-- the text is longer than a program may be
abbrev pub IsTooLong : List ℕ → Type 0
IsTooLong text = text_limit < length text

-- the text isn't too long, and no token begins at this byte, after trivia and tokens
abbrev pub HasNoToken : List ℕ → (at : ℕ) → Type 0
HasNoToken text at = (length text ≤ text_limit) × StopsAt text at

-- the text has tokens, and they are no program's, for this reason
abbrev pub IsNoProgram : List ℕ → ParseError → Type 0
IsNoProgram text broken = (tokens : List Token) × HasTokens text tokens
    × Refuses (kinds tokens) broken

-- a text spells one program
abbrev pub SpellsOneProgram : Type 0
SpellsOneProgram = (text : List ℕ) (one other : List Declaration) → Spells text one
    → Spells text other → one ≡ other

-- nothing hinders that the text is read
pub record IsReadable (text : List ℕ) : Type 0 where
  pub short : IsTooLong text → ⊥
  pub lexes : (at : ℕ) → HasNoToken text at → ⊥
  pub parses : (token : ℕ) → IsNoProgram text (refused.Parse token) → ⊥
  pub nests : IsNoProgram text refused.Nesting → ⊥

-- a text that spells a program can be read
abbrev pub SpelledTextsAreReadable : Type 0
SpelledTextsAreReadable = (text : List ℕ) (program : List Declaration) → Spells text program
    → IsReadable text
