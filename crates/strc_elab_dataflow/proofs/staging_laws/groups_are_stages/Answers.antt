use Rattle.strc_elab_dataflow.proofs.Groups.{groups_are_stages}
use Rattle.strc_elab_dataflow.proofs.staging_laws.groups_are_stages.Goals as goal

pub returns : goal.returns
returns g c = groups_are_stages
