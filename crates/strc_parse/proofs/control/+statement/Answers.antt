use Rattle.std.proofs.Common.{◌≡◌, ap, arith}
use Rattle.strc_parse_grammar.specs.Grammar.{kinds}
use Rattle.strc_parse_grammar.specs.Streams.{statement}
use Rattle.strc_parse_grammar.proofs.Rounds.{statement_at}
use Rattle.strc_parse.proofs.control.+statement.Goals as goal

pub returns-then-depth-eq0-clause-gives : goal.returns-then-depth-eq0-clause-gives
unfolding statement
returns-then-depth-eq0-clause-gives t c = let none : c.args.depth ≡ 0 = omega arith in
    ap (λ n. statement n (kinds c.args.tokens.now)) none

pub returns-clause-gives : goal.returns-clause-gives
returns-clause-gives t c = rw (statement_at c.args.depth (kinds c.args.tokens.now) (omega arith))
    c.shallow.ensures.gives
