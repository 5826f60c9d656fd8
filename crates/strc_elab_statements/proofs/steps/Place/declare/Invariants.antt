use Rattle.std.proofs.Common.{◌≡◌, map, drop}
use Rattle.strc_parse_tree.specs.View.{variable_view}
use Rattle.strc_work_meaning.specs.Typing as typing
use Rattle.strc_elab_statements.specs.Statements as spec
use Rattle.strc_elab_statements.specs.Saying.{store_of}
use Rattle.strc_elab_statements.specs.Places.{place_of}
use Rattle.strc_elab_statements.proofs.steps.Place.declare.Given as goal

abbrev pub invariant-loop-variable : goal.invariant-loop-variable
invariant-loop-variable l = record {
  left : spec.variables_done (place_of l.self) l.store.variables.names l.start l.kind l.cells
      (map variable_view (drop l.variable-index l.variable-items)) (store_of l.store)
      ≡ spec.variables_done (place_of l.self) l.initial.store.variables.names l.start l.kind l.cells
      (map variable_view l.variable-items) (store_of l.initial.store);
  names : typing.with_declared l.store.variables.names l.kind
      (map variable_view (drop l.variable-index l.variable-items))
      ≡ typing.with_declared l.initial.store.variables.names l.kind
      (map variable_view l.variable-items);
}
