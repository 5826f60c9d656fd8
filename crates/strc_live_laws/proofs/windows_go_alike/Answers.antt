use Rattle.strc_live_laws.proofs.Windows.{windows_law}
use Rattle.strc_live_laws.proofs.windows_go_alike.Goals as goal

pub returns : goal.returns
returns c = windows_law
