use Rattle.strc_sched_laws.proofs.Parts.{is_scatter, is_copy, is_gather}
use Rattle.strc_sched_laws.proofs.dealing_laws.nodes_deal.Goals as goal

pub returns : goal.returns
returns c = λ copied fission. (is_scatter fission, is_copy copied fission, is_gather fission)
