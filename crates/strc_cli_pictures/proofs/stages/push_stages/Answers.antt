use Rattle.strc_cli_pictures.specs.Lists.{nodes_of}
use Rattle.strc_cli_pictures.proofs.StageBoxes.{first_stage}
use Rattle.strc_cli_output.proofs.Texts.{piece_more}
use Rattle.strc_cli_pictures.proofs.stages.push_stages.Goals as goal

pub loop-stage-preserved : goal.loop-stage-preserved
loop-stage-preserved c =
    piece_more _ _ _ _ _ _ c.in_ok-push_stage.ensures
    (first_stage (nodes_of c.args.counted) c.loop-stage.stage c.loop-stage.first
    c.unit_count.result c.loop-stage.units.now c.split_at.result.0.now c.split_at.result.1.now
    c.args.ends.now c.loop-stage-test.true c.unit_count.ensures.is c.split_at.ensures.front
    c.split_at.ensures.back)
    c.loop-stage.invariant
