use Rattle.strc_lex.proofs.Lexing.{lexes_only}
use Rattle.strc_lex.proofs.lexer.one_token_list.Goals as goal

pub returns : goal.returns
returns c text first second h g = lexes_only text 0 first second h g
