use Rattle.std.proofs.Common.{◌≡◌, of_z, rules, to_z, w32}
use Rattle.strc_cli_messages.proofs.Wording.{start_index_said}
use Rattle.strc_cli_messages.proofs.fault.push_start_index.Goals as goal

pub returns : goal.returns
returns c =
    let this : to_z w32 (of_z w32 c.args.trapped.index) ≡ c.args.trapped.index = search rules in
    start_index_said c.args.trapped _ c.from.result _ _ _ _ _ _ c.if-trapped-eq0.false this
    c.from.ensures c.in_ok-add-2.ensures c.in_ok-push_signed.ensures c.in_ok-add-3.ensures
    c.in_ok-number.ensures c.in_ok-add-4.ensures
