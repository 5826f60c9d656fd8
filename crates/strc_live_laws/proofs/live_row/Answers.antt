use Rattle.strc_live_laws.proofs.Row.{live_row}
use Rattle.strc_live_laws.proofs.live_row.Goals as goal

pub returns : goal.returns
returns c = live_row
