use Rattle.std.proofs.Common.{◌+◌, drop, map, refl, sym, ap, ◌∙◌}
use Rattle.strc_parse_tree.specs.View.{variable_view}
use Rattle.strc_lex_names.proofs.Lists.{map-drop}
use Rattle.strc_rate_intervals.specs.Intervals.{with_unknown}
use Rattle.strc_rate.proofs.Counting.{first_variables, first_runnable, runnable_step}
use Rattle.strc_rate.proofs.Counting.{variables_step}
use Rattle.strc_rate.proofs.Sighting.{variables_seen}
use Rattle.strc_rate.proofs.peeks.check_peeks_in_variables.Goals as goal

pub loop-variable-init : goal.loop-variable-init
loop-variable-init c = record {
  counted = first_variables c.no_items.result
      (map variable_view c.args.variables.now) c.no_items.ensures;
  runnable = first_runnable c.no_items.result c.no_items.ensures;
  reported = refl;
  names = refl;
}

pub loop-variable-preserved : goal.loop-variable-preserved
loop-variable-preserved c =
    let all = c.args.variables.now in
    let i = c.loop-variable.variable-index in
    let x = variable_view c.variable-item.result in
    let rest = map variable_view (drop (i + 1) all) in
    let next = map-drop variable_view all i c.variable-item.result c.loop-variable-test.true
    c.variable-item.is in
    let so_far = c.loop-variable.counts in
    let here = c.in_ok-passed.passed in
    let passed = c.in_ok-passed.ensures in
    let invariant = c.loop-variable.invariant in
    let names = c.in_ok-declare.ensures in
    record {
      counted = variables_step so_far here c.sequence-counts.result _ x rest _
          passed.counted c.sequence-counts.ensures next invariant.counted;
      runnable = runnable_step so_far here c.sequence-counts.result c.sequence-counts.ensures;
      reported = variables_seen c.loop-variable.sites.items
          c.check_peeks_in_option.new.sites.items _ c.loop-variable.names
          c.declare.new.self c.loop-variable.here c.advance-here.result here x rest _
          passed.counted names c.advance-here.ensures passed.reported next invariant.reported;
      names = ap (λ r. with_unknown r rest) names
          ∙ ap (with_unknown c.loop-variable.names) (sym next) ∙ invariant.names;
    }
