use Rattle.std.proofs.Common.{◌≡◌, drop, map}
use Rattle.strc_parse_tree.specs.View.{variable_view}
use Rattle.strc_work_meaning.specs.Typing.{with_declared}
use Rattle.strc_work_rules.proofs.resolution.declare_typed.Given as goal

abbrev pub invariant-loop-variable : goal.invariant-loop-variable
invariant-loop-variable l = with_declared l.names l.kind
    (map variable_view (drop l.variable-index l.variables))
    ≡ with_declared l.initial.names l.kind (map variable_view l.variables)
