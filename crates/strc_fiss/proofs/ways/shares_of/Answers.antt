use Rattle.std.proofs.Common.{subst, sym, ap, length, arith, ◌+◌}
use Rattle.strc_elab_graph.specs.declared.graph.Channel as channel
use Rattle.strc_elab_graph.specs.declared.graph.Fission.{Fission}
use Rattle.std.proofs.Common.{List, All, ◌<◌, ◌≡◌, ℕ}
use Rattle.strc_fiss.proofs.Shares.{AreShares, sources_there, next_share, all_shares}
use Rattle.strc_fiss.proofs.ways.shares_of.Goals as goal

pub own_marks-requires : goal.own_marks-requires
own_marks-requires c =
    subst (λ (l : List channel.Channel). All (λ (c1 : channel.Channel). c1.source.node
    < length c.nodes-size.result.now) l) (sym c.channels.ensures.channels)
    (subst (λ l. All (λ (c1 : channel.Channel). c1.source.node < length l)
    c.args.graph.now.channels)
    (sym c.nodes-size.ensures) (sources_there c.args.graph.now c.channels.ensures.ports))

pub loop-node-preserved : goal.loop-node-preserved
loop-node-preserved c =
    subst (λ (l : List Fission). AreShares c.args.graph.now c.args.counts.now c.args.ways l
    (c.loop-node.node + 1)) (sym c.in_ok-push.ensures.items)
    (next_share c.args.graph.now c.args.counts.now c.args.ways c.loop-node.shares.items
    c.loop-node.node c.in_ok-share_at.field-0 c.loop-node.invariant c.in_ok-share_at.ensures)

pub returns-clause-shares : goal.returns-clause-shares
returns-clause-shares c =
    let graph = c.args.graph.now in
    let e : c.loop-node.node ≡ length graph.nodes = omega (
      arith,
      c.loop-node-test.false,
      c.loop-node.auto.node-end,
      ap length c.nodes-size.ensures,
    ) in
    all_shares graph c.args.counts.now c.args.ways c.loop-node.shares.items
    (subst (λ (n : ℕ). AreShares graph c.args.counts.now c.args.ways c.loop-node.shares.items n) e
    c.loop-node.invariant)
