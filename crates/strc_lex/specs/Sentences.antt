-- What a person reads where a text has no tokens.
use Rattle.std.specs.Prelude.{ℕ, List, ◌++◌, codes, decimal}
use Rattle.strc_lex.specs.Text.{text_limit}
use Rattle.strc_lex.specs.declared.error.LexError.{LexError}
use Rattle.strc_lex.specs.declared.error.LexError.TheVariants.{Lex, TextTooLong, NoMemory}

abbrev pub lex_sentence : LexError → List ℕ
lex_sentence (Lex at) = codes "no token begins at byte " ++ decimal at
lex_sentence TextTooLong = codes "the text is longer than " ++ decimal text_limit ++ codes " bytes"
lex_sentence NoMemory = codes "out of memory"
