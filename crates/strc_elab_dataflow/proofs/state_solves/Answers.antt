use Rattle.strc_elab_dataflow.proofs.Fills.{state_solves}
use Rattle.strc_elab_dataflow.proofs.state_solves.Goals as goal

pub returns : goal.returns
returns g c meaning graph input order now keeps valid went =
    state_solves meaning graph input keeps order valid now went
