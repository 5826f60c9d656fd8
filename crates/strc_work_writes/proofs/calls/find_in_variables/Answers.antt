use Rattle.std.proofs.Common.{◌<◌, ◌+◌, length, map, drop, sym, ap, ◌∙◌, arith}
use Rattle.strc_parse_tree.specs.View.{variable_view}
use Rattle.strc_lex_names.proofs.Lists.{map-drop}
use Rattle.strc_work_writes.specs.Calls.{called_in_option, called_in_variables}
use Rattle.strc_work_writes.specs.Writers.{Places, with_calls}
use Rattle.strc_work_writes.proofs.Search.{calls_after}
use Rattle.strc_work_writes.proofs.calls.find_in_variables.Goals as goal

pub loop-variable-preserved : goal.loop-variable-preserved
loop-variable-preserved c =
    let helpers : Places = c.args.helpers.now in
    let found : Places = c.loop-variable.found in
    let items = c.args.variables.now in
    let i = c.loop-variable.variable-index in
    let lt : i < length items = omega arith in
    let x = c.variable-item.result in
    let rest = called_in_variables (map variable_view (drop (i + 1) items)) in
    ap (λ l. with_calls helpers l rest) c.in_ok-find_in_option.ensures
    ∙ sym (calls_after helpers found (called_in_option (variable_view x).initial) rest)
    ∙ ap (λ a. with_calls helpers found (called_in_variables a))
    (sym (map-drop variable_view items i x lt c.variable-item.is))
    ∙ c.loop-variable.invariant
