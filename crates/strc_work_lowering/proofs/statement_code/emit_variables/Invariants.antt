use Rattle.std.proofs.Common.{◌≡◌, drop, map}
use Rattle.strc_parse_tree.specs.View.{variable_view}
use Rattle.strc_work_code.specs.Nodes.{before}
use Rattle.strc_work_code.specs.Lowering.{variables_nodes}
use Rattle.strc_work_meaning.specs.Scoping.{with_declared}
use Rattle.strc_work_lowering.specs.Written.{written}
use Rattle.strc_work_lowering.proofs.statement_code.emit_variables.Given as goal

abbrev pub invariant-loop-variable : goal.invariant-loop-variable
invariant-loop-variable l = record {
  code : before (written l.code) (variables_nodes l.names l.cells
      (map variable_view (drop l.variable-index l.variables)))
      ≡ before (written l.initial.code) (variables_nodes l.initial.names l.cells
      (map variable_view l.variables));
  names : with_declared l.names l.cells (map variable_view (drop l.variable-index l.variables))
      ≡ with_declared l.initial.names l.cells (map variable_view l.variables);
}
