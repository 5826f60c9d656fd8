use Rattle.strc_cli_messages.proofs.Wording.{rates_said}
use Rattle.strc_cli_messages.proofs.refusal.push_rates.Goals as goal

pub returns : goal.returns
returns c =
    rates_said c.args.moved c.args.declared c.args.counted _ _ _ _ _ _ _ _ _ c.from.ensures
    c.from-2.ensures c.in_ok-add.ensures c.in_ok-push_side.ensures c.in_ok-add-2.ensures
    c.in_ok-number.ensures c.in_ok-add-3.ensures c.in_ok-number-2.ensures
