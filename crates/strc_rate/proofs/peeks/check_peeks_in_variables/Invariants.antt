use Rattle.std.proofs.Common.{◌≡◌, ◌++◌, Some, drop, map}
use Rattle.strc_parse_tree.specs.View.{variable_view}
use Rattle.strc_rate.specs.Counts.{no_items, sequence, variables_counts}
use Rattle.strc_rate.specs.Peeks.{variables_sites}
use Rattle.strc_rate_intervals.specs.Intervals.{with_unknown}
use Rattle.strc_rate.proofs.peeks.check_peeks_in_variables.Given as goal

abbrev pub invariant-loop-variable : goal.invariant-loop-variable
invariant-loop-variable l = record {
  counted : sequence l.counts (variables_counts
      (map variable_view (drop l.variable-index l.variables)))
      ≡ variables_counts (map variable_view l.variables);
  runnable : sequence l.counts (Some no_items) ≡ l.counts;
  reported : l.sites.items ++ variables_sites l.names l.here
      (map variable_view (drop l.variable-index l.variables)) ≡ l.initial.sites.items
      ++ variables_sites l.initial.names l.fn.popped (map variable_view l.variables);
  names : with_unknown l.names (map variable_view (drop l.variable-index l.variables))
      ≡ with_unknown l.initial.names (map variable_view l.variables);
}
