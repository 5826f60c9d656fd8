use Rattle.strc_emit_text.specs.Numbers.{number_text}
use Rattle.strc_emit_text.proofs.Pushing.{one_more_below}
use Rattle.strc_emit_text.proofs.numbers.push_first.Goals as goal

pub loop-at-preserved : goal.loop-at-preserved
loop-at-preserved c =
    one_more_below (number_text c.args.numbers.now) c.loop-at.at _ _ _ c.loop-at.invariant c.in_ok-push_number_at.ensures
