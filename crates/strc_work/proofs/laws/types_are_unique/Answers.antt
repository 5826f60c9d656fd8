use Rattle.strc_work.proofs.TypesOfExpressions.{type_is_one}
use Rattle.strc_work.proofs.laws.types_are_unique.Goals as goal

pub returns : goal.returns
returns c = type_is_one
