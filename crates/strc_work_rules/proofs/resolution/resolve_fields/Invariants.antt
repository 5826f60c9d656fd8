use Rattle.std.proofs.Common.{◌≡◌, drop, map}
use Rattle.strc_parse_tree.specs.View.{variable_view}
use Rattle.strc_work_meaning.specs.Typing.{names_with}
use Rattle.strc_work_rules.specs.Resolution.{fields_resolved}
use Rattle.strc_work_rules.specs.Verdicts.{context_of}
use Rattle.strc_work_rules.proofs.Resolved.{list_after}
use Rattle.strc_work_rules.proofs.resolution.resolve_fields.Given as goal

abbrev pub invariant-loop-variable : goal.invariant-loop-variable
invariant-loop-variable l = record {
  left : list_after variable_view l.resolved.items
      (fields_resolved (context_of l.context) l.fields l.before l.kind
      (map variable_view (drop l.variable-index l.variables)))
      ≡ fields_resolved (context_of l.context) l.fields l.initial.before l.kind
      (map variable_view l.variables);
  before : names_with l.before (map variable_view (drop l.variable-index l.variables))
      ≡ names_with l.initial.before (map variable_view l.variables);
}
