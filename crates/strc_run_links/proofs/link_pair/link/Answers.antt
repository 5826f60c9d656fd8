use Rattle.strc_run_links.proofs.Rules.{begins}
use Rattle.strc_run_links.proofs.link_pair.link.Goals as goal

pub bounded_with-requires-clause-rule : goal.bounded_with-requires-clause-rule
bounded_with-requires-clause-rule c = begins
