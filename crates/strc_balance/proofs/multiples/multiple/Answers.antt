use Rattle.std.proofs.Math.Nat.{pos_of_dvd_of_pos}
use Rattle.strc_balance.proofs.Divisors.{multiple-by}
use Rattle.strc_balance.proofs.multiples.multiple.Goals as goal

pub nonzero_div-result : goal.nonzero_div-result
nonzero_div-result c = pos_of_dvd_of_pos c.greatest_divisor.ensures.0 c.requires.some

pub returns : goal.returns
returns c = multiple-by c.args.first c.args.second c.greatest_divisor.result
    c.greatest_divisor.ensures
