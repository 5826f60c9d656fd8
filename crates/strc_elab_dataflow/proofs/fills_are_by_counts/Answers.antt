use Rattle.strc_elab_dataflow.proofs.Fills.{fills_after}
use Rattle.strc_elab_dataflow.proofs.fills_are_by_counts.Goals as goal

pub returns : goal.returns
returns g c meaning graph input order now keeps within valid went =
    fills_after meaning graph input keeps within order valid now went
