use Rattle.strc_work.proofs.Numbers.{walk_gives_number}
use Rattle.strc_work.proofs.laws.walk_gives_numbers.Goals as goal

pub returns : goal.returns
returns c = walk_gives_number
