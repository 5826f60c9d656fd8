use Rattle.std.proofs.Common.{◌≡◌, of_z, rules, to_z, w32}
use Rattle.strc_cli_messages.proofs.Saying.{look_before_said, look_past_said}
use Rattle.strc_cli_messages.proofs.fault.push_look.Goals as goal

pub returns-then-trapped-lt0 : goal.returns-then-trapped-lt0
returns-then-trapped-lt0 c =
    let this : to_z w32 (of_z w32 c.args.trapped.index) ≡ c.args.trapped.index = search rules in
    look_before_said c.args.trapped _ _ _ _ _ c.if-trapped-eq0.false this c.if-trapped-lt0.true
    c.in_ok-add-2.ensures c.in_ok-push_signed.ensures c.in_ok-add-3.ensures

pub returns : goal.returns
returns c =
    let this : to_z w32 (of_z w32 c.args.trapped.index) ≡ c.args.trapped.index = search rules in
    look_past_said c.args.trapped _ c.from.result _ _ _ _ _ _ c.if-trapped-eq0.false this
    c.if-trapped-lt0.false c.from.ensures c.in_ok-add-2.ensures c.in_ok-push_signed.ensures
    c.in_ok-add-4.ensures c.in_ok-number.ensures c.in_ok-add-5.ensures
