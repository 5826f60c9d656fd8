use Rattle.std.proofs.Common.{arith}
use Rattle.strc_elab.specs.Totals.{totals_view}
use Rattle.strc_elab.proofs.Totals.{one_more-under, one_more-over}
use Rattle.strc_elab.proofs.task.Totals.one_more.Goals as goal

pub returns-then-self-ge-NODE_LIMIT : goal.returns-then-self-ge-NODE_LIMIT
returns-then-self-ge-NODE_LIMIT c =
    rw c.from.ensures (one_more-over (totals_view c.args.self)
    (omega (arith, c.if-self-ge-NODE_LIMIT.true)))

pub returns : goal.returns
returns c =
    one_more-under (totals_view c.args.self) (omega (arith, c.if-self-ge-NODE_LIMIT.false))
