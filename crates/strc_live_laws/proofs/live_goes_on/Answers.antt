use Rattle.strc_live_laws.proofs.Live.{goes_on_law}
use Rattle.strc_live_laws.proofs.live_goes_on.Goals as goal

pub returns : goal.returns
returns c = goes_on_law
