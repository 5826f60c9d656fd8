use Rattle.strc_live_answers.proofs.Answers.{cut_off_law}
use Rattle.strc_live_answers.proofs.live_feeds_are_cut_off.Goals as goal

pub returns : goal.returns
returns c =
    cut_off_law c.live_runs_answer.ensures c.live_runs_write_by_nodes.ensures
    c.live_runs_serve.ensures
