-- How the punctuation marks are written.
use Rattle.std.specs.Prelude.{ℕ, List, [], ◌∷◌, codes}
use Rattle.strc_lex.specs.declared.token.Punctuation.{Punctuation}
use Rattle.strc_lex.specs.declared.token.Punctuation.TheVariants as punctuation

abbrev pub punctuation_text : Punctuation → List ℕ
punctuation_text punctuation.Arrow = codes "->"
punctuation_text punctuation.PlusPlus = codes "++"
punctuation_text punctuation.MinusMinus = codes "--"
punctuation_text punctuation.PlusAssign = codes "+="
punctuation_text punctuation.MinusAssign = codes "-="
punctuation_text punctuation.StarAssign = codes "*="
punctuation_text punctuation.SlashAssign = codes "/="
punctuation_text punctuation.PercentAssign = codes "%="
punctuation_text punctuation.ShiftLeft = codes "<<"
punctuation_text punctuation.ShiftRight = codes ">>"
punctuation_text punctuation.LessEqual = codes "<="
punctuation_text punctuation.GreaterEqual = codes ">="
punctuation_text punctuation.Equal = codes "=="
punctuation_text punctuation.NotEqual = codes "!="
punctuation_text punctuation.AndAnd = codes "&&"
punctuation_text punctuation.OrOr = codes "||"
punctuation_text punctuation.Plus = codes "+"
punctuation_text punctuation.Minus = codes "-"
punctuation_text punctuation.Star = codes "*"
punctuation_text punctuation.Slash = codes "/"
punctuation_text punctuation.Percent = codes "%"
punctuation_text punctuation.Less = codes "<"
punctuation_text punctuation.Greater = codes ">"
punctuation_text punctuation.Assign = codes "="
punctuation_text punctuation.Not = codes "!"
punctuation_text punctuation.And = codes "&"
punctuation_text punctuation.Or = codes "|"
punctuation_text punctuation.Caret = codes "^"
punctuation_text punctuation.Tilde = codes "~"
punctuation_text punctuation.Question = codes "?"
punctuation_text punctuation.Colon = codes ":"
punctuation_text punctuation.Semicolon = codes ";"
punctuation_text punctuation.Comma = codes ","
punctuation_text punctuation.OpenParen = codes "("
punctuation_text punctuation.CloseParen = codes ")"
punctuation_text punctuation.OpenBrace = codes "{"
punctuation_text punctuation.CloseBrace = codes "}"
punctuation_text punctuation.OpenBracket = codes "["
punctuation_text punctuation.CloseBracket = codes "]"

-- the punctuation of two characters, and those of one
abbrev pub paired_punctuation : List Punctuation
paired_punctuation = punctuation.Arrow ∷ punctuation.PlusPlus ∷ punctuation.MinusMinus
    ∷ punctuation.PlusAssign ∷ punctuation.MinusAssign ∷ punctuation.StarAssign
    ∷ punctuation.SlashAssign ∷ punctuation.PercentAssign ∷ punctuation.ShiftLeft
    ∷ punctuation.ShiftRight ∷ punctuation.LessEqual ∷ punctuation.GreaterEqual ∷ punctuation.Equal
    ∷ punctuation.NotEqual ∷ punctuation.AndAnd ∷ punctuation.OrOr ∷ []

abbrev pub single_punctuation : List Punctuation
single_punctuation = punctuation.Plus ∷ punctuation.Minus ∷ punctuation.Star ∷ punctuation.Slash
    ∷ punctuation.Percent ∷ punctuation.Less ∷ punctuation.Greater ∷ punctuation.Assign
    ∷ punctuation.Not ∷ punctuation.And ∷ punctuation.Or ∷ punctuation.Caret ∷ punctuation.Tilde
    ∷ punctuation.Question ∷ punctuation.Colon ∷ punctuation.Semicolon ∷ punctuation.Comma
    ∷ punctuation.OpenParen ∷ punctuation.CloseParen ∷ punctuation.OpenBrace
    ∷ punctuation.CloseBrace ∷ punctuation.OpenBracket ∷ punctuation.CloseBracket ∷ []
