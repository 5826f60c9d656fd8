use Rattle.strc_live_answers.proofs.Answers.{end_law}
use Rattle.strc_live_answers.proofs.live_feeds_end.Goals as goal

pub returns : goal.returns
returns c =
    end_law c.live_runs_answer.ensures c.live_runs_write_by_nodes.ensures
    c.live_runs_serve.ensures
