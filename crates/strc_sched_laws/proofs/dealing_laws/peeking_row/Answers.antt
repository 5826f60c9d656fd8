use Rattle.strc_sched_laws.proofs.Peeking.{peeking_row}
use Rattle.strc_sched_laws.proofs.dealing_laws.peeking_row.Goals as goal

pub returns : goal.returns
returns c = peeking_row
