use Rattle.std.proofs.Common.{◌≡◌, drop, map, []}
use Rattle.strc_parse_tree.specs.View.{expr_view}
use Rattle.strc_elab.specs.Elaboration as spec
use Rattle.strc_elab_statements.specs.Saying.{store_of}
use Rattle.strc_elab.specs.Tasks.{setting_of}
use Rattle.strc_elab.proofs.body.Body.values.Given as goal

abbrev pub invariant-loop-weight : goal.invariant-loop-weight
invariant-loop-weight g l = record {
  left : spec.values_evaluated (setting_of l.self.task) l.initial.store.variables.names
      (map expr_view (drop l.weight-index l.weights)) l.values.items (store_of l.store)
      ≡ spec.values_evaluated (setting_of l.self.task) l.initial.store.variables.names
      (map expr_view l.weights) [] (store_of l.initial.store);
  names : l.store.variables.names ≡ l.initial.store.variables.names;
}
