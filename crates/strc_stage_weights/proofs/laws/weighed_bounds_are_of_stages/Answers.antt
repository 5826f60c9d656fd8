use Rattle.strc_stage_weights.proofs.WeighedBounds.{weighed_bounds_are_of_stages}
use Rattle.strc_stage_weights.proofs.laws.weighed_bounds_are_of_stages.Goals as goal

pub returns : goal.returns
returns c = weighed_bounds_are_of_stages
