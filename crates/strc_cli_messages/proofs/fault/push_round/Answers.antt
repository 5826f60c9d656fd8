use Rattle.strc_cli_messages.proofs.Saying.{round_said}
use Rattle.strc_cli_messages.proofs.fault.push_round.Goals as goal

pub returns-in_ok-add-in-At-2 : goal.returns-in_ok-add-in-At-2
returns-in_ok-add-in-At-2 c =
    round_said c.args.round c.in-At.number c.from.result _ _ _ _ c.in-At.is c.from.ensures
    c.in_ok-add-in-At.ensures c.in_ok-number-in-At.ensures c.in_ok-add-in-At-2.ensures
