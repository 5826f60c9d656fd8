use Rattle.strc_live_laws.proofs.Live.{faults_law}
use Rattle.strc_live_laws.proofs.live_faults.Goals as goal

pub returns : goal.returns
returns c = faults_law
