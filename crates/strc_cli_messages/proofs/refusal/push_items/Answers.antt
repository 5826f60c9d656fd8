use Rattle.strc_cli_source.proofs.NamedNodes.{adds_after, adds_these}
use Rattle.strc_cli_messages.proofs.refusal.push_items.Goals as goal

pub returns : goal.returns
returns c =
    adds_after _ _ _ _
    (adds_after _ _ _ _
    (adds_after _ _ _ _
    (adds_after _ _ _ _
    (adds_after _ _ _ _ (adds_these _ _ _ c.in_ok-add.ensures) c.in_ok-number.ensures)
    c.in_ok-add-2.ensures) c.in_ok-add-3.ensures) c.in_ok-number-2.ensures) c.in_ok-add-4.ensures
