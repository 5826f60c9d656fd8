use Rattle.strc_cli_source.proofs.NamedNodes.{adds_after, adds_both, adds_these}
use Rattle.strc_cli_source.proofs.nodes.push_ends.Goals as goal

pub returns-in-Some-get : goal.returns-in-Some-get
returns-in-Some-get c =
    adds_after _ _ _ _ (adds_both _ _ _ (adds_after _ _ _ _ (adds_after _ _ _ _
    (adds_both _ _ _ (adds_after _ _ _ _ (adds_these _ _ _ c.in_ok-add.ensures)
    c.in_ok-push_node.ensures) c.in_ok-push_rate.ensures)
    c.in_ok-add-2.ensures) c.in_ok-push_node-2.ensures) c.in_ok-push_rate-2.ensures)
    c.in_ok-add-3.ensures
