use Rattle.strc_work.proofs.TypesOfExpressions.{walk_accepts_value}
use Rattle.strc_work.proofs.laws.walk_accepts_values.Goals as goal

pub returns : goal.returns
returns c = walk_accepts_value
