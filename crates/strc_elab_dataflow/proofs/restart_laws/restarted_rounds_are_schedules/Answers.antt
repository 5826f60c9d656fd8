use Rattle.strc_elab_dataflow.proofs.Schedules.{restarted_rounds_are_schedules}
use Rattle.strc_elab_dataflow.proofs.restart_laws.restarted_rounds_are_schedules.Goals as goal

pub returns : goal.returns
returns g c = restarted_rounds_are_schedules
