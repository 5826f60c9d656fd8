use Rattle.std.proofs.Common.{◌≡◌, drop, map}
use Rattle.strc_parse_tree.specs.View.{variable_view}
use Rattle.strc_work_code.specs.Nodes.{before}
use Rattle.strc_work_code.specs.Lowering.{fields_nodes}
use Rattle.strc_work_lowering.specs.Written.{written}
use Rattle.strc_work_lowering.proofs.emission.emit_fields.Given as goal

abbrev pub invariant-loop-variable : goal.invariant-loop-variable
invariant-loop-variable l = before (written l.code)
    (fields_nodes l.names (map variable_view (drop l.variable-index l.variables)))
    ≡ before (written l.initial.code) (fields_nodes l.names (map variable_view l.variables))
