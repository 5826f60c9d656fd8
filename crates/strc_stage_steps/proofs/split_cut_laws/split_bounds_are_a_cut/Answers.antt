use Rattle.strc_stage_steps.proofs.Staged.{split_bounds_are_a_cut}
use Rattle.strc_stage_steps.proofs.split_cut_laws.split_bounds_are_a_cut.Goals as goal

pub returns : goal.returns
returns c = split_bounds_are_a_cut
