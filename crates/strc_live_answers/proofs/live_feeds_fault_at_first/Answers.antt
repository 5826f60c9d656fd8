use Rattle.strc_live_answers.proofs.Answers.{first_fault_law}
use Rattle.strc_live_answers.proofs.live_feeds_fault_at_first.Goals as goal

pub returns : goal.returns
returns c = first_fault_law c.live_starts_fault.ensures c.given_begins_so.ensures
