use Rattle.std.proofs.Common.{◌≡◌, ◌++◌, drop, map}
use Rattle.strc_parse_tree.specs.View.{variable_view}
use Rattle.strc_rate.specs.Entries.{peeks_of_variables}
use Rattle.strc_rate.specs.Peeks.{unreached}
use Rattle.strc_rate.proofs.unreachable_peeks.skip_variables.Given as goal

abbrev pub invariant-loop-variable : goal.invariant-loop-variable
invariant-loop-variable l = l.sites.items ++ unreached (peeks_of_variables
    (map variable_view (drop l.variable-index l.variables))) ≡ l.initial.sites.items
    ++ unreached (peeks_of_variables (map variable_view l.variables))
