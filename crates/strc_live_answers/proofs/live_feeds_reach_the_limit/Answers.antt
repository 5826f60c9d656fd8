use Rattle.strc_live_answers.proofs.Answers.{limit_law}
use Rattle.strc_live_answers.proofs.live_feeds_reach_the_limit.Goals as goal

pub returns : goal.returns
returns c =
    limit_law c.live_runs_answer.ensures c.live_runs_write_by_nodes.ensures
    c.given_begins_so.ensures
