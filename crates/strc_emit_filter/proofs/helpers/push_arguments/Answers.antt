use Rattle.strc_emit_filter.specs.Helpers.{argument_text}
use Rattle.strc_emit_text.proofs.Pushing.{one_more_below}
use Rattle.strc_emit_filter.proofs.helpers.push_arguments.Goals as goal

pub loop-at-preserved : goal.loop-at-preserved
loop-at-preserved c =
    one_more_below (argument_text c.args.function.now) c.loop-at.at _ _ _ c.loop-at.invariant c.in_ok-push_argument.ensures
