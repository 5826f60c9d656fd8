use Rattle.std.proofs.Common.{arith}
use Rattle.strc_stage_plan.proofs.Shares.{bounds_more}
use Rattle.strc_stage_plan.proofs.bounds.shared.Goals as goal

pub loop-stage-preserved : goal.loop-stage-preserved
loop-stage-preserved c = grind (
  arith,
  bounds_more c.args.nodes c.args.starts.now c.args.stages c.loop-stage.stage c.first_group.result
      (omega arith) c.first_group.ensures.is,
)
