use Rattle.strc_balance.proofs.Spreading.{spread-none_left}
use Rattle.strc_balance.proofs.laws.spread_is_whole.Goals as goal

pub returns : goal.returns
returns c = spread-none_left
