use Rattle.strc_stage_weights.proofs.PickedGroups.{picked_groups_are_a_cut}
use Rattle.strc_stage_weights.proofs.laws.picked_groups_are_a_cut.Goals as goal

pub returns : goal.returns
returns c = picked_groups_are_a_cut
