use Rattle.strc_fuse.proofs.Lawful.{programs_are_placed}
use Rattle.strc_fuse.proofs.laws.programs_are_placed.Goals as goal

pub returns : goal.returns
returns c = programs_are_placed
