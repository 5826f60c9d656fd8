use Rattle.std.proofs.Common.{◌≡◌, drop, map}
use Rattle.strc_parse_tree.specs.View.{variable_view}
use Rattle.strc_work_writes.specs.LocalWrites.{with_locals}
use Rattle.strc_work_writes.specs.Walk.{variables_write_field}
use Rattle.strc_work_writes.proofs.field_writes.variables_write_field.Given as goal

abbrev pub invariant-loop-variable : goal.invariant-loop-variable
invariant-loop-variable l = record {
  writes : variables_write_field l.fields l.locals
      (map variable_view (drop l.variable-index l.variables))
      ≡ variables_write_field l.fields l.initial.locals (map variable_view l.variables);
  locals : with_locals l.locals (map variable_view (drop l.variable-index l.variables))
      ≡ with_locals l.initial.locals (map variable_view l.variables);
}
