use Rattle.std.proofs.Common.{◌≡◌, drop, map}
use Rattle.strc_parse_tree.specs.View.{variable_view}
use Rattle.strc_work_meaning.specs.Typing.{with_declared}
use Rattle.strc_work_rules.specs.Resolution.{variables_resolved}
use Rattle.strc_work_rules.specs.Verdicts.{context_of}
use Rattle.strc_work_rules.proofs.Resolved.{list_after}
use Rattle.strc_work_rules.proofs.statement_rules.resolve_variables.Given as goal

abbrev pub invariant-loop-variable : goal.invariant-loop-variable
invariant-loop-variable l = record {
  left : list_after variable_view l.resolved.items
      (variables_resolved (context_of l.context) l.names l.start l.kind
      (map variable_view (drop l.variable-index l.variables)))
      ≡ variables_resolved (context_of l.context) l.initial.names l.start l.kind
      (map variable_view l.variables);
  names : with_declared l.names l.kind (map variable_view (drop l.variable-index l.variables))
      ≡ with_declared l.initial.names l.kind (map variable_view l.variables);
}
