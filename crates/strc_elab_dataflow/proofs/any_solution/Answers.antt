use Rattle.strc_elab_dataflow.proofs.WholeRun.{run_gives, answer_is_run}
use Rattle.strc_elab_dataflow.proofs.any_solution.Goals as goal

pub returns : goal.returns
returns g c meaning graph input startup round startup_order round_order k inputs keeps schedule
    solves = (
      (run_gives meaning graph input keeps startup round startup_order round_order k schedule inputs
          solves).0,
      answer_is_run meaning graph input keeps startup round startup_order round_order k schedule
          inputs
          solves,
    )
