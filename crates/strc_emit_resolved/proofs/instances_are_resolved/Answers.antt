use Rattle.strc_emit_resolved.proofs.Elaborated.{instances_are_resolved}
use Rattle.strc_emit_resolved.proofs.instances_are_resolved.Goals as goal

pub returns : goal.returns
returns c = instances_are_resolved
