use Rattle.strc_live_laws.proofs.Live.{ends_law}
use Rattle.strc_live_laws.proofs.live_ends.Goals as goal

pub returns : goal.returns
returns c = ends_law
