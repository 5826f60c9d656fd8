use Rattle.std.proofs.Common.{◌≡◌, map}
use Rattle.strc_fiss.specs.Numbers.{up_to, share_at, base}
use Rattle.strc_fiss.specs.Splitting.{inner_wires}
use Rattle.strc_fiss.specs.WireView.{group_view}
use Rattle.strc_fiss.proofs.channels.inner_groups.Given as goal

abbrev pub invariant-loop-node : goal.invariant-loop-node
invariant-loop-node l =
    map group_view l.groups.items
    ≡ up_to (λ node. inner_wires (base (share_at l.shares) node) (share_at l.shares node)) l.node
