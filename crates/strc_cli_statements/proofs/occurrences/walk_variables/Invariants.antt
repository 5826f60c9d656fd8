use Rattle.std.proofs.Common.{◌≡◌, ◌++◌, drop, map, replicate}
use Rattle.strc_parse_tree.specs.View.{variable_view}
use Rattle.strc_cli_statements.specs.Occurrences.{variables_count}
use Rattle.strc_cli_statements.proofs.occurrences.walk_variables.Given as goal

abbrev pub invariant-loop-variable : goal.invariant-loop-variable
invariant-loop-variable l = record {
  marks : l.walk.found.items ++ replicate (variables_count l.initial.walk.sought
      (map variable_view (drop l.variable-index l.variables))) l.here
      ≡ l.initial.walk.found.items
      ++ replicate (variables_count l.initial.walk.sought (map variable_view l.variables)) l.here;
  sought : l.walk.sought ≡ l.initial.walk.sought;
}
