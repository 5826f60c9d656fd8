use Rattle.std.proofs.Common.{refl}
use Rattle.std.specs.Fmt.{digits}
use Rattle.strc_emit_operators.specs.Spelling.{operators_text}
use Rattle.strc_emit_operators.proofs.operators_text.Goals as goal

pub returns : goal.returns
unfolding operators_text digits
returns c = refl
