use Rattle.strc_work.proofs.Numbers.{number_is_one}
use Rattle.strc_work.proofs.laws.numbers_are_unique.Goals as goal

pub returns : goal.returns
returns c = number_is_one
