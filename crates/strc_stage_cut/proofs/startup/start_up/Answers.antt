use Rattle.strc_stage_cut.proofs.Started.{started_so}
use Rattle.strc_stage_cut.proofs.startup.start_up.Goals as goal

pub returns : goal.returns
returns c =
    started_so c.args.plan.now c.transformed_sizes.result.now c.args.input.now
    c.start_up_in.result c.transformed_sizes.ensures.sizes c.start_up_in.ensures
