use Rattle.strc_elab_graph.specs.declared.graph.Fission.{Fission}
use Rattle.strc_fiss.proofs.Bases.{limit_passed}
use Rattle.strc_fiss.proofs.numbers.bases_of.Goals as goal

zeros : Fission
zeros = record { ways = 0; firings = 0; pop = 0; window = 0; push = 0 }

pub returns-in_err-next-clause-limit : goal.returns-in_err-next-clause-limit
unfolding zeros
returns-in_err-next-clause-limit c is =
    limit_passed c.args.shares.now c.loop-share.share-index c.loop-share.next zeros
    c.loop-share-test.true c.loop-share.invariant.1 c.in_err-next.ensures.limit
