use Rattle.strc_emit_network.proofs.Later.{works_fire_later}
use Rattle.strc_emit_network.proofs.works_fire_later.Goals as goal

pub returns : goal.returns
returns c = works_fire_later
