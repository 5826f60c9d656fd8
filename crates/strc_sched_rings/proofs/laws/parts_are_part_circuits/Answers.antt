use Rattle.strc_sched_rings.proofs.PartCircuits.{parts_are_part_circuits}
use Rattle.strc_sched_rings.proofs.laws.parts_are_part_circuits.Goals as goal

pub returns : goal.returns
returns c = parts_are_part_circuits
