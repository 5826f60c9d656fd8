use Rattle.std.proofs.Common.{◌≡◌, ◌∙◌, All, length, map, ap, sym, subst}
use Rattle.std.proofs.lemmas.List.{length-map}
use Rattle.strc_elab_graph.specs.NodeView.{node_view}
use Rattle.strc_balance.specs.Balance.{IsWithinLimit}
use Rattle.strc_startup.specs.Rates.{first_count}
use Rattle.strc_startup.specs.Waiting.{HasEnds, Pushes}
use Rattle.strc_startup.proofs.Bounds.{first_within}
use Rattle.strc_startup.proofs.startup.startup.Goals as goal

pub primed-requires-clause-ends : goal.primed-requires-clause-ends
primed-requires-clause-ends c =
    let nodes = c.args.graph.now.nodes in
    let size : length c.in_ok-first.first.items ≡ length nodes =
    ap length c.in_ok-first.ensures
    ∙ length-map (map node_view c.nodes.result.now) first_count
    ∙ length-map c.nodes.result.now node_view ∙ ap length c.nodes.ensures in
    subst (λ n. All (HasEnds n) c.deref.result.now) (sym size)
    (subst (All (HasEnds (length nodes))) (sym c.deref.ensures.value)
    c.in_ok-channels.ensures.ends)

pub primed-requires-clause-pushes : goal.primed-requires-clause-pushes
primed-requires-clause-pushes c =
    subst (All Pushes) (sym c.deref.ensures.value) c.in_ok-channels.ensures.pushes

pub primed-requires-clause-within : goal.primed-requires-clause-within
primed-requires-clause-within c =
    subst IsWithinLimit (sym c.in_ok-first.ensures)
    (first_within (map node_view c.nodes.result.now))
