-- What an arm of a choice reads that is a rule of its own in the code.
use Rattle.std.specs.Prelude.{ℕ, List, Ok}
use Rattle.strc_lex.specs.declared.token.TokenKind.{TokenKind}
use Rattle.strc_parse_tree.specs.Tree as tree
use Rattle.strc_parse_grammar.specs.Reading.{◌>>=◌, Tall}
use Rattle.strc_parse_grammar.specs.Streams.{Inner, phase}

abbrev pub prework : ℕ → Inner → List TokenKind → Tall tree.Member
prework limit inner tokens =
    phase limit inner tokens >>= λ read. Ok (tree.Prework read.0.0 read.0.1, read.1, read.2)

abbrev pub work : ℕ → Inner → List TokenKind → Tall tree.Member
work limit inner tokens =
    phase limit inner tokens >>= λ read. Ok (tree.Work read.0.0 read.0.1, read.1, read.2)
