use Rattle.strc_stage_plan.proofs.ByChannels.{split_graphs_are_by_channels}
use Rattle.strc_stage_plan.proofs.split_channels_laws.split_graphs_are_by_channels.Goals as goal

pub returns : goal.returns
returns c = split_graphs_are_by_channels
