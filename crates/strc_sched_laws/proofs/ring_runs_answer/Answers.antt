use Rattle.strc_sched_laws.proofs.RingRuns.{ring_runs}
use Rattle.strc_sched_laws.proofs.ring_runs_answer.Goals as goal

pub returns : goal.returns
returns c = ring_runs
