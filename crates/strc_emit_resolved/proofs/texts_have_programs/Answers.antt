use Rattle.strc_emit_resolved.proofs.Programs.{texts_have_programs}
use Rattle.strc_emit_resolved.proofs.texts_have_programs.Goals as goal

pub returns : goal.returns
returns c = texts_have_programs
