use Rattle.std.proofs.Common.{◌<◌, ◌∙◌, length, arith}
use Rattle.std.specs.Option.{option_map}
use Rattle.strc_elab_flattening.specs.TargetView.{target_view}
use Rattle.strc_elab_flattening.proofs.Wiring.{target_after_some}
use Rattle.strc_elab_flattening.proofs.channels.target_after.Goals as goal

pub returns-else-is_empty : goal.returns-else-is_empty
returns-else-is_empty c =
    let some : 0 < length c.args.rest.now =
    grind (arith, c.is_empty.ensures, c.if-is_empty.false) in
    c.to_port.ensures
    ∙ target_after_some c.args.next c.args.rest.now (option_map target_view c.args.target) some
