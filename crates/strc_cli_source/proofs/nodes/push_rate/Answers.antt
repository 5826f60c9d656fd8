use Rattle.strc_cli_source.proofs.NamedNodes.{adds_after, adds_these}
use Rattle.strc_cli_source.proofs.nodes.push_rate.Goals as goal

pub returns : goal.returns
returns c =
    adds_after _ _ _ _ (adds_these _ _ _ c.in_ok-add.ensures) c.in_ok-number.ensures
