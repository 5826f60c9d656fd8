use Rattle.std.proofs.Common.{◌≡◌, drop, map}
use Rattle.strc_parse_tree.specs.View.{variable_view}
use Rattle.strc_work_writes.specs.Calls.{called_in_variables}
use Rattle.strc_work_writes.specs.Writers.{with_calls}
use Rattle.strc_work_writes.proofs.calls.find_in_variables.Given as goal

abbrev pub invariant-loop-variable : goal.invariant-loop-variable
invariant-loop-variable l =
    with_calls l.helpers l.found
    (called_in_variables (map variable_view (drop l.variable-index l.variables)))
    ≡ with_calls l.helpers l.initial.found (called_in_variables (map variable_view l.variables))
