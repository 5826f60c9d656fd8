use Rattle.std.proofs.Common.{◌∙◌, arith}
use Rattle.strc_stage_cut.specs.Bounds.{bound_in}
use Rattle.strc_stage_cut.proofs.Ranges.{stage_first, stage_here, stage_before}
use Rattle.strc_stage_cut.proofs.plan_cut.stage_at.Goals.{then-bounds-stage, else-bounds-stage}
use Rattle.strc_stage_cut.proofs.plan_cut.stage_at.Goals as goal

pub loop-stage-init : goal.loop-stage-init
loop-stage-init c = stage_first (bound_in c.args.bounds.now) c.args.node

pub loop-stage-preserved : goal.loop-stage-preserved
loop-stage-preserved c =
    let bound = bound_in c.args.bounds.now in
    let stage = c.loop-stage.stage in
    elim c.if-bounds-stage.branch [
      | then-bounds-stage w ↦ w.found-is ∙ stage_here bound stage c.args.node
          (omega (arith, w.if-bounds-stage.true))
      | else-bounds-stage w ↦ w.found-is ∙ stage_before bound stage c.args.node c.loop-stage.found
          (omega (arith, w.if-bounds-stage.false)) c.loop-stage.invariant
    ]
