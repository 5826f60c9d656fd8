use Rattle.strc_stage_plan.proofs.StageUnits.{segments_are_units}
use Rattle.strc_stage_plan.proofs.cut_laws.segments_are_units.Goals as goal

pub returns : goal.returns
returns c = segments_are_units
