use Rattle.std.proofs.Common.{◌∙◌, sym}
use Rattle.strc_stage_steps.proofs.Fitting.{none_fit}
use Rattle.strc_stage_steps.proofs.blocks.fit_blocks.Goals as goal

pub returns-then-block_count-blocks : goal.returns-then-block_count-blocks
returns-then-block_count-blocks c =
    none_fit c.args.blocks.now c.args.parcel.now.load.blocks c.args.parcel.now.load.rooms
    (λ same. c.if-block_count-blocks.true (c.block_count.ensures.blocks ∙ same))
