use Rattle.std.proofs.Common.{◌≡◌, ap, arith}
use Rattle.strc_parse_grammar.specs.Grammar.{kinds}
use Rattle.strc_parse_grammar.specs.Reading.{expression}
use Rattle.strc_parse_grammar.proofs.Rounds.{expression_at}
use Rattle.strc_parse_grammar.proofs.expression.+expression.Goals as goal

pub returns-then-depth-eq0 : goal.returns-then-depth-eq0
unfolding expression
returns-then-depth-eq0 t c = let none : c.args.depth ≡ 0 = omega arith in
    ap (λ n. expression n c.args.rank (kinds c.args.tokens.now)) none

pub returns : goal.returns
returns t c = rw (expression_at c.args.depth c.args.rank (kinds c.args.tokens.now) (omega arith))
    c.ranked.ensures
