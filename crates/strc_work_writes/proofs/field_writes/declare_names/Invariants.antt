use Rattle.std.proofs.Common.{◌≡◌, drop, map}
use Rattle.strc_parse_tree.specs.View.{variable_view}
use Rattle.strc_work_writes.specs.LocalWrites.{with_locals}
use Rattle.strc_work_writes.proofs.field_writes.declare_names.Given as goal

abbrev pub invariant-loop-variable : goal.invariant-loop-variable
invariant-loop-variable l =
    with_locals l.names (map variable_view (drop l.variable-index l.variables))
    ≡ with_locals l.initial.names (map variable_view l.variables)
