use Rattle.strc_stage_plan.proofs.ByChannels.{split_copies_have_own_windows}
use Rattle.strc_stage_plan.proofs.split_channels_laws.split_copies_have_own_windows.Goals as goal

pub returns : goal.returns
returns c = split_copies_have_own_windows
