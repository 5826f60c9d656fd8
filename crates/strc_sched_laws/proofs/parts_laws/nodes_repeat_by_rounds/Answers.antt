use Rattle.strc_sched_laws.proofs.Repeats.{nodes_repeat_by_rounds}
use Rattle.strc_sched_laws.proofs.parts_laws.nodes_repeat_by_rounds.Goals as goal

pub returns : goal.returns
returns c = nodes_repeat_by_rounds
