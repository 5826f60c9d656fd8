use Rattle.strc_elab_dataflow.proofs.RoundRobin.{splitter-runs, duplicate-runs, joiner-runs}
use Rattle.strc_elab_dataflow.proofs.splitters_and_joiners.Goals as goal

pub returns : goal.returns
returns g c meaning code weights inputs n = (
  λ splitter port. splitter-runs meaning code inputs weights splitter n port,
  λ splitter port. duplicate-runs meaning code inputs weights splitter n port,
  λ joiner. joiner-runs meaning code inputs weights joiner n,
)
