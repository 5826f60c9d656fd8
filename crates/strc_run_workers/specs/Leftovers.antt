-- What workers leave of a ring, and what it comes to on one thread.
use Rattle.std.specs.Prelude.{◌≡◌, true}
use Rattle.strc_stage_core.specs.Events.{is_over}
use Rattle.strc_stage_steps.specs.Pipes.{Beginning, PipeView, IsStateOf, IsSomeState}
use Rattle.strc_stage_core.specs.Seeing.{core_of_parts}
use Rattle.strc_stage_core.specs.declared.ring.Parts.{Parts}
use Rattle.strc_stage_steps.specs.Collectors.{sees}
use Rattle.strc_stage_steps.specs.Stages.{see}
use Rattle.strc_stage_steps.specs.declared.collector.CollectorParts.{CollectorParts}
use Rattle.strc_stage_steps.specs.declared.stage.StageParts.{StageParts}

-- What workers leave of a ring is some state of it.
abbrev pub IsLeft : Parts StageParts CollectorParts → Type 0
IsLeft parts = IsSomeState (core_of_parts see sees parts)

-- From this start some events lead to a state that is over, and to what this collector has come to.
abbrev pub Drives : Beginning → CollectorParts → Type 0
Drives start parts =
    (core : PipeView) × IsStateOf start core × (is_over core ≡ true)
    × (core.collector ≡ sees parts)
