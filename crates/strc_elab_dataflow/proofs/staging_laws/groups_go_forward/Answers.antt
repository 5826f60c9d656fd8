use Rattle.strc_elab_dataflow.proofs.Groups.{groups_go_forward}
use Rattle.strc_elab_dataflow.proofs.staging_laws.groups_go_forward.Goals as goal

pub returns : goal.returns
returns g c = groups_go_forward
