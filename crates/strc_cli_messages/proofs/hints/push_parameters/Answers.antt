use Rattle.strc_cli_messages.proofs.Wording.{hinted_keeps, on_ok}
use Rattle.strc_cli_messages.proofs.hints.push_parameters.Goals as goal

pub returns : goal.returns
returns c = on_ok _ (hinted_keeps _ _ _ c.in_ok-hint.ensures) c.push_declared.ensures
