-- What a person reads where tokens have no tree.
use Rattle.std.specs.Prelude.{ℕ, List, ◌++◌, codes, decimal}
use Rattle.strc_parse_grammar.specs.declared.error.ParseError.{ParseError}
use Rattle.strc_parse_grammar.specs.declared.error.ParseError.TheVariants.{Parse, Nesting, NoMemory}

abbrev pub parse_sentence : ParseError → List ℕ
parse_sentence (Parse token) = codes "no program has token " ++ decimal token ++ codes " there"
parse_sentence Nesting = codes "a statement or an expression is nested too deep"
parse_sentence NoMemory = codes "out of memory"
