use Rattle.std.proofs.Common.{length, drop, ◌∙◌, ap, rules}
use Rattle.std.proofs.lemmas.Slice.{between_to_end}
use Rattle.strc_lex.specs.Scanning as spec
use Rattle.strc_lex.proofs.Lexing.{found_token, found_none}
use Rattle.strc_lex.proofs.lexer.first_token.Goals as goal

pub returns-clause-found : goal.returns-clause-found
returns-clause-found c = found_token c.args.text.now c.args.at c.in_ok-found.found c.requires
    (c.in_ok-found.ensures ∙ ap spec.token_at
    (between_to_end c.args.text.now c.args.at (length c.args.text.now) (search rules)))

pub returns-clause-none : goal.returns-clause-none
returns-clause-none c = found_none (drop c.args.at c.args.text.now) c.in_ok-found.found
    (c.in_ok-found.ensures ∙ ap spec.token_at
    (between_to_end c.args.text.now c.args.at (length c.args.text.now) (search rules)))
