use Rattle.strc_work.proofs.TypesOfExpressions.{walk_gives_type}
use Rattle.strc_work.proofs.laws.walk_gives_types.Goals as goal

pub returns : goal.returns
returns c = walk_gives_type
