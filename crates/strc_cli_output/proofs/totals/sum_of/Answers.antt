use Rattle.strc_cli_output.proofs.Sums.{held_all}
use Rattle.strc_cli_output.proofs.totals.sum_of.Goals as goal

pub returns : goal.returns
returns c =
    held_all c.loop-number.sum c.loop-number.number-index _ c.args.numbers.now
    c.loop-number.invariant.fits c.loop-number-test.false c.loop-number.invariant.is
