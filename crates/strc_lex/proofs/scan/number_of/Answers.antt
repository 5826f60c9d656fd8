use Rattle.std.proofs.Common.{sym, arith, drop}
use Rattle.strc_lex.specs.Text.{number_from}
use Rattle.strc_lex.proofs.Runs.{number_grows, bounded-above}
use Rattle.strc_lex.proofs.scan.number_of.Goals as goal

pub returns-then-number-gt-GREATEST : goal.returns-then-number-gt-GREATEST
returns-then-number-gt-GREATEST c =
    let grows = number_grows c.loop-digit.number
    (drop c.loop-digit.digit-index c.args.digits.now) in
    sym (bounded-above (number_from 0 c.args.digits.now)
    (omega (arith, grows, c.loop-digit.invariant.whole)))
