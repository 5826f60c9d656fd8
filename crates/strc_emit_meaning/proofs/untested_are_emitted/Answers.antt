use Rattle.strc_emit_meaning.proofs.Untesting.{untested_emitted}
use Rattle.strc_emit_meaning.proofs.untested_are_emitted.Goals as goal

pub returns : goal.returns
returns c = untested_emitted
