use Rattle.std.proofs.Common.{◌≡◌, drop}
use Rattle.strc_parse_tree.specs.View.{listed_view}
use Rattle.strc_elab_statements.specs.Saying.{store_of, arguments_done}
use Rattle.strc_elab_statements.proofs.evaluation.+value.Given as goal

abbrev pub invariant-evaluate_arguments-loop-argument :
    goal.invariant-evaluate_arguments-loop-argument
invariant-evaluate_arguments-loop-argument l = record {
  says : arguments_done (listed_view (drop l.argument-index l.arguments)) (store_of l.store)
      ≡ arguments_done (listed_view l.arguments) (store_of l.initial.store);
  names : l.store.variables.names ≡ l.initial.store.variables.names;
}
