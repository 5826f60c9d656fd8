use Rattle.strc_stage_steps.proofs.Staged.{split_cuts_are_staged}
use Rattle.strc_stage_steps.proofs.split_cut_laws.split_cuts_are_staged.Goals as goal

pub returns : goal.returns
returns c = split_cuts_are_staged
