use Rattle.strc_live_answers.proofs.Answers.{fault_law}
use Rattle.strc_live_answers.proofs.live_feeds_fault.Goals as goal

pub returns : goal.returns
returns c =
    fault_law c.live_runs_answer.ensures c.live_runs_write_by_nodes.ensures
    c.given_begins_so.ensures
