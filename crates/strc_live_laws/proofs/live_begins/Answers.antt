use Rattle.strc_live_laws.proofs.Live.{begins_law}
use Rattle.strc_live_laws.proofs.live_begins.Goals as goal

pub returns : goal.returns
returns c = begins_law
