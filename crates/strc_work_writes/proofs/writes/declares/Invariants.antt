use Rattle.std.proofs.Common.{◌≡◌, drop, map}
use Rattle.strc_parse_tree.specs.View.{variable_view}
use Rattle.strc_work_writes.specs.LocalWrites.{declares}
use Rattle.strc_work_writes.proofs.writes.declares.Given as goal

abbrev pub invariant-loop-variable : goal.invariant-loop-variable
invariant-loop-variable l = declares l.name (map variable_view (drop l.variable-index l.variables))
    ≡ declares l.name (map variable_view l.variables)
