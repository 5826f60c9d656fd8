use Rattle.std.proofs.Common.{◌≡◌, drop, map, []}
use Rattle.strc_parse_tree.specs.View.{expr_view}
use Rattle.strc_elab.specs.Elaboration as spec
use Rattle.strc_elab_statements.specs.Saying.{store_of}
use Rattle.strc_elab.specs.Tasks.{setting_of}
use Rattle.strc_elab.proofs.body.Body.arguments.Given as goal

abbrev pub invariant-loop-number : goal.invariant-loop-number
invariant-loop-number g l = record {
  left : spec.arguments_given (setting_of l.self.task) l.initial.store.variables.names
      (drop l.number l.parameters) (map expr_view (drop l.number l.arguments)) l.bound
      (store_of l.store) ≡ spec.arguments_given
      (setting_of l.self.task) l.initial.store.variables.names l.parameters
      (map expr_view l.arguments) [] (store_of l.initial.store);
  names : l.store.variables.names ≡ l.initial.store.variables.names;
}
