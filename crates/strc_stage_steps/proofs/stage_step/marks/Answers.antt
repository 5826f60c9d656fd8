use Rattle.std.proofs.Common.{◌∙◌}
use Rattle.strc_stage_steps.specs.Stages.{see}
use Rattle.strc_stage_steps.proofs.Steps.{last_round, other_round, later_stage}
use Rattle.strc_stage_steps.proofs.stage_step.marks.Goals as goal

pub returns-then-stage-eq1 : goal.returns-then-stage-eq1
returns-then-stage-eq1 c = last_round (see c.args.stage.now) c.args.parcel.now c.if-stage.true
    c.if-stage-eq1.true

pub returns-else-stage-eq1 : goal.returns-else-stage-eq1
returns-else-stage-eq1 c = c.stopped.ensures
    ∙ other_round (see c.args.stage.now) c.args.parcel.now c.if-stage.true c.requires.left
    c.if-stage-eq1.false

pub returns-else-stage : goal.returns-else-stage
returns-else-stage c = c.last.ensures
    ∙ later_stage (see c.args.stage.now) c.args.parcel.now c.if-stage.false
