use Rattle.strc_stage_steps.proofs.Rings.{graphs_are_running}
use Rattle.strc_stage_steps.proofs.split_rings_laws.split_graphs_are_running.Goals as goal

pub returns : goal.returns
returns c = graphs_are_running
