use Rattle.strc_cli_tapes.proofs.ToldApart.{one_more_at}
use Rattle.strc_cli_tapes.proofs.names.told_apart.Goals as goal

pub loop-place-preserved : goal.loop-place-preserved
loop-place-preserved c =
    one_more_at (λ it. (it.node, it.name.now)) (λ it. (it.node, it.name.items)) c.args.owns.now
    c.loop-place.place _ c.loop-place.tapes.items c.push.new.self.items _ _
    c.loop-place-test.true c.in_ok-push.ensures.items c.in_ok-tape.ensures c.loop-place.invariant
