use Rattle.strc_elab_dataflow.proofs.Ranges.{ranges_are_stages}
use Rattle.strc_elab_dataflow.proofs.staging_laws.ranges_are_stages.Goals as goal

pub returns : goal.returns
returns g c = ranges_are_stages
