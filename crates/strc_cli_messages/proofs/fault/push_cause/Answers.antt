use Rattle.strc_cli_messages.proofs.Saying.{caused}
use Rattle.strc_cli_messages.proofs.fault.push_cause.Goals as goal

pub returns : goal.returns
returns c =
    caused _ _ c.trapped.result _ _ c.cause.ensures c.in_ok-push_trapped.ensures
