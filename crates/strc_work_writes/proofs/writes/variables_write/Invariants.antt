use Rattle.std.proofs.Common.{◌≡◌, drop, map}
use Rattle.strc_parse_tree.specs.View.{variable_view}
use Rattle.strc_work_writes.specs.LocalWrites.{variables_write}
use Rattle.strc_work_writes.proofs.writes.variables_write.Given as goal

abbrev pub invariant-loop-variable : goal.invariant-loop-variable
invariant-loop-variable l = variables_write l.name
    (map variable_view (drop l.variable-index l.variables))
    ≡ variables_write l.name (map variable_view l.variables)
