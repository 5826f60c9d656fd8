use Rattle.strc_fiss.proofs.Shares.{AreShares}
use Rattle.strc_fiss.proofs.ways.shares_of.Given as goal

abbrev pub invariant-loop-node : goal.invariant-loop-node
invariant-loop-node l = AreShares l.graph l.counts l.ways l.shares.items l.node
