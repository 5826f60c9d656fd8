use Rattle.std.proofs.Common.{◌∙◌, ap, ap₂, map, [], ℕ, length, arith}
use Rattle.strc_elab_graph.specs.declared.graph.Fission.{Fission}
use Rattle.strc_fiss.specs.Numbers.{share_at, base}
use Rattle.strc_fiss.specs.Splitting.{inner_wires}
use Rattle.strc_fiss.specs.WireView.{group_view}
use Rattle.strc_fiss.proofs.Bases.{bases_many, base_read, share_read, parts_within}
use Rattle.strc_fiss.proofs.Sequences.{pushed}
use Rattle.strc_fiss.proofs.channels.inner_groups.Goals as goal

zeros : Fission
zeros = record { ways = 0; firings = 0; pop = 0; window = 0; push = 0 }

pub bounds-bases-node : goal.bounds-bases-node
bounds-bases-node c = omega (
  arith,
  c.loop-node-test.true,
  bases_many (share_at c.args.shares.now) c.args.bases.now
      (length c.args.shares.now) c.requires.bases,
)

pub inner_wires-requires : goal.inner_wires-requires
unfolding zeros
inner_wires-requires c = omega (
  arith,
  c.requires.within,
  parts_within c.args.shares.now c.args.bases.now c.loop-node.node 0 zeros c.requires.bases
      c.loop-node-test.true,
)

pub loop-node-preserved : goal.loop-node-preserved
unfolding zeros
loop-node-preserved c =
    let shares = c.args.shares.now in
    let share = share_at shares in
    let node = c.loop-node.node in
    ap (map group_view) c.in_ok-push.ensures.items
    ∙ pushed group_view (λ (n : ℕ). inner_wires (base share n) (share n)) []
    c.loop-node.groups.items node c.in_ok-inner_wires.field-0 c.loop-node.invariant
    (c.in_ok-inner_wires.ensures
    ∙ ap₂ inner_wires
    (base_read share c.args.bases.now (length shares) node 0 c.requires.bases
    c.loop-node.auto.node-end)
    (share_read shares node zeros c.loop-node-test.true))
