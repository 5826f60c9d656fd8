use Rattle.strc_emit_filter.specs.Helpers.{parameter_text}
use Rattle.strc_emit_text.proofs.Pushing.{one_more_below}
use Rattle.strc_emit_filter.proofs.helpers.push_names.Goals as goal

pub loop-at-preserved : goal.loop-at-preserved
loop-at-preserved c =
    one_more_below (parameter_text) c.loop-at.at _ _ _ c.loop-at.invariant c.in_ok-push_parameter.ensures
