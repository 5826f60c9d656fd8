use Rattle.std.proofs.Common.{◌+◌, drop, map}
use Rattle.strc_parse_tree.specs.View.{variable_view}
use Rattle.strc_lex_names.proofs.Lists.{map-drop}
use Rattle.strc_rate.proofs.Unreaching.{variables_unreached}
use Rattle.strc_rate.proofs.unreachable_peeks.skip_variables.Goals as goal

pub loop-variable-preserved : goal.loop-variable-preserved
loop-variable-preserved c =
    let all = c.args.variables.now in
    let i = c.loop-variable.variable-index in
    let x = variable_view c.variable-item.result in
    let rest = map variable_view (drop (i + 1) all) in
    variables_unreached c.loop-variable.sites.items c.skip_option.new.sites.items _ x rest _
    c.in_ok-skip_option.ensures
    (map-drop variable_view all i c.variable-item.result c.loop-variable-test.true
    c.variable-item.is) c.loop-variable.invariant
