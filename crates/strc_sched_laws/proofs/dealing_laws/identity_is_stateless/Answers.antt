use Rattle.strc_sched_laws.proofs.Parts.{identity}
use Rattle.strc_sched_laws.proofs.dealing_laws.identity_is_stateless.Goals as goal

pub returns : goal.returns
returns c = identity
