use Rattle.std.proofs.Common.{◌<◌, ◌+◌, length, drop, map, sym, ap, ◌∙◌, arith}
use Rattle.std.proofs.Math.ListN.{drop_of_length-le}
use Rattle.strc_parse_tree.specs.View.{variable_view}
use Rattle.strc_work_code.specs.Nodes.{before}
use Rattle.strc_work_code.specs.Lowering.{variables_nodes}
use Rattle.strc_work_meaning.specs.Scoping.{with_declared}
use Rattle.strc_work_lowering.specs.Written.{written}
use Rattle.strc_work_code.proofs.Nodes.{before_end}
use Rattle.strc_lex_names.proofs.Lists.{map-drop}
use Rattle.strc_work_lowering.proofs.Emitted.{variables_more}
use Rattle.strc_work_lowering.proofs.statement_code.emit_variables.Goals as goal

pub loop-variable-preserved : goal.loop-variable-preserved
loop-variable-preserved c =
    let items = c.args.variables.now in
    let i = c.loop-variable.variable-index in
    let lt : i < length items = omega arith in
    let x = c.variable-item.result in
    let left = map-drop variable_view items i x lt c.variable-item.is in
    let rest = map variable_view (drop (i + 1) items) in
    record {
      code = variables_more c.loop-variable.names c.emit_variable.new.names c.args.cells
          (written c.loop-variable.code) (written c.emit_variable.new.code)
          (variable_view x) rest c.in_ok-emit_variable.ensures.code
          c.in_ok-emit_variable.ensures.names
          ∙ ap (λ l. before (written c.loop-variable.code)
          (variables_nodes c.loop-variable.names c.args.cells l)) (sym left)
          ∙ c.loop-variable.invariant.code;
      names = ap (λ n. with_declared n c.args.cells rest) c.in_ok-emit_variable.ensures.names
          ∙ ap (with_declared c.loop-variable.names c.args.cells) (sym left)
          ∙ c.loop-variable.invariant.names;
    }

pub returns-clause-code : goal.returns-clause-code
returns-clause-code c =
    let items = c.args.variables.now in
    sym (before_end (written c.loop-variable.code))
    ∙ ap (λ l. before (written c.loop-variable.code)
    (variables_nodes c.loop-variable.names c.args.cells (map variable_view l)))
    (sym (drop_of_length-le items c.loop-variable-test.false))
    ∙ c.loop-variable.invariant.code
