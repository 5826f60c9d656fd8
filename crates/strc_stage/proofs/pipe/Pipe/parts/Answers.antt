use Rattle.std.proofs.Common.{sym, subst}
use Rattle.strc_stage_steps.specs.Collectors.{sees}
use Rattle.strc_stage_steps.specs.Pipes.{IsSomeState}
use Rattle.strc_stage_core.specs.Seeing.{Ring, core_of}
use Rattle.strc_stage_steps.specs.Stages.{see}
use Rattle.strc_stage_steps.specs.declared.collector.CollectorParts.{CollectorParts}
use Rattle.strc_stage_steps.specs.declared.stage.StageParts.{StageParts}
use Rattle.strc_stage.specs.Piped.{IsRingOf}
use Rattle.strc_stage.proofs.pipe.Pipe.parts.Goals as goal

pub returns-in-Going-clause-parts : goal.returns-in-Going-clause-parts
returns-in-Going-clause-parts c =
    subst (IsRingOf c.parts.result) (sym c.in-Going.is) (sym c.parts.ensures.parts)

pub returns-in-Going-clause-state : goal.returns-in-Going-clause-state
returns-in-Going-clause-state c =
    subst (λ (ring : Ring StageParts CollectorParts). IsSomeState (core_of see sees ring))
    (sym c.parts.ensures.parts) c.parts.ensures.state
