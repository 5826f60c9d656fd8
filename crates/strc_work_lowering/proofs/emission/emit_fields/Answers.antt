use Rattle.std.proofs.Common.{◌<◌, ◌+◌, length, drop, map, sym, ap, ◌∙◌, arith}
use Rattle.std.proofs.Math.ListN.{drop_of_length-le}
use Rattle.strc_parse_tree.specs.View.{variable_view}
use Rattle.strc_work_code.specs.Nodes.{before}
use Rattle.strc_work_code.specs.Lowering.{fields_nodes}
use Rattle.strc_work_lowering.specs.Written.{written}
use Rattle.strc_work_code.proofs.Nodes.{before_end}
use Rattle.strc_lex_names.proofs.Lists.{map-drop}
use Rattle.strc_work_lowering.proofs.Emitted.{fields_more}
use Rattle.strc_work_lowering.proofs.emission.emit_fields.Goals as goal

pub loop-variable-preserved : goal.loop-variable-preserved
loop-variable-preserved c =
    let items = c.args.variables.now in
    let names = c.args.names.now in
    let i = c.loop-variable.variable-index in
    let lt : i < length items = omega arith in
    let x = c.variable-item.result in
    let left = map-drop variable_view items i x lt c.variable-item.is in
    fields_more names (written c.loop-variable.code) (written c.emit_field.new.code)
    (variable_view x) (map variable_view (drop (i + 1) items)) c.in_ok-emit_field.ensures
    ∙ ap (λ l. before (written c.loop-variable.code) (fields_nodes names l)) (sym left)
    ∙ c.loop-variable.invariant

pub returns : goal.returns
returns c =
    let items = c.args.variables.now in
    let names = c.args.names.now in
    sym (before_end (written c.loop-variable.code))
    ∙ ap (λ l. before (written c.loop-variable.code) (fields_nodes names (map variable_view l)))
    (sym (drop_of_length-le items c.loop-variable-test.false))
    ∙ c.loop-variable.invariant
