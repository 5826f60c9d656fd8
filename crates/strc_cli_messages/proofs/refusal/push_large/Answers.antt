use Rattle.strc_cli_messages.proofs.Wording.{large_said}
use Rattle.strc_cli_messages.proofs.refusal.push_large.Goals as goal

pub returns-in-Some-2 : goal.returns-in-Some-2
returns-in-Some-2 c =
    large_said c.in-Some-2.channel _ _ _ c.in_ok-push_channel.ensures c.in_ok-add.ensures
