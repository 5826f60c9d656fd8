use Rattle.strc_fiss.specs.Ways.{fission_of}
use Rattle.strc_stage_steps.proofs.Numbers.{origins_are}
use Rattle.strc_stage_steps.proofs.laws.fissions_have_origins.Goals as goal

pub returns : goal.returns
returns c old schedule round ways planned =
    origins_are (fission_of old round ways) old.nodes planned.unfissioned
