use Rattle.std.proofs.Common.{◌≡◌, ◌+◌, drop, refl, sym, subst, ap, ◌∙◌}
use Rattle.std.proofs.lemmas.Result.{IfOk-weaker}
use Rattle.strc_parse_tree.specs.View.{expr_view, listed_view}
use Rattle.strc_parse_tree.specs.Tree as tree
use Rattle.strc_parse_tree.proofs.Calls.{expr_view-Call, listed_view-drop}
use Rattle.strc_rate.specs.Walk.{ExprIsPassed}
use Rattle.strc_rate.proofs.Counting.{first_arguments, first_runnable, runnable_step}
use Rattle.strc_rate.proofs.Counting.{arguments_step}
use Rattle.strc_rate.proofs.Sighting.{arguments_seen}
use Rattle.strc_rate.proofs.expression_peeks.+expression.Goals as goal

pub check_peeks_in_arguments-loop-argument-init : goal.check_peeks_in_arguments-loop-argument-init
check_peeks_in_arguments-loop-argument-init t c = record {
  counted = first_arguments c.no_items.result (listed_view c.args.arguments.now)
      c.no_items.ensures;
  runnable = first_runnable c.no_items.result c.no_items.ensures;
  reported = refl;
}

pub check_peeks_in_arguments-loop-argument-preserved :
    goal.check_peeks_in_arguments-loop-argument-preserved
check_peeks_in_arguments-loop-argument-preserved t c =
    let all = c.args.arguments.now in
    let i = c.loop-argument.argument-index in
    let x = expr_view c.argument-item.result in
    let rest = listed_view (drop (i + 1) all) in
    let next = listed_view-drop all i c.argument-item.result c.loop-argument-test.true
    c.argument-item.is in
    let so_far = c.loop-argument.counts in
    let here = c.in_ok-passed.passed in
    let passed = c.in_ok-passed.ensures in
    let invariant = c.loop-argument.invariant in
    record {
      counted = arguments_step so_far here c.sequence-counts.result _ x rest
          (listed_view (drop i all)) passed.counted c.sequence-counts.ensures next
          invariant.counted;
      runnable = runnable_step so_far here c.sequence-counts.result c.sequence-counts.ensures;
      reported = arguments_seen c.loop-argument.sites.items
          c.check_peeks_in_expression.new.sites.items _ c.args.names.now
          c.loop-argument.here c.advance-here.result here x rest (listed_view (drop i all))
          passed.counted c.advance-here.ensures passed.reported next invariant.reported;
    }

pub check_peeks_in_expression-returns-in-Call : goal.check_peeks_in_expression-returns-in-Call
check_peeks_in_expression-returns-in-Call t c =
    let same : tree.Call c.in-Call.field-0 (listed_view c.deref.result.now)
    ≡ expr_view c.args.value.now =
    ap (λ items. tree.Call c.in-Call.field-0 (listed_view items)) c.deref.ensures.value
    ∙ sym (expr_view-Call c.in-Call.field-0 c.in-Call.arguments)
    ∙ ap expr_view (sym c.in-Call.is) in
    IfOk-weaker c.check_peeks_in_arguments.result _ _
    (λ counts h. subst (λ e. ExprIsPassed c.args.names.now c.args.popped e counts
    c.args.sites.now.items c.check_peeks_in_arguments.new.sites.items) same h)
    c.check_peeks_in_arguments.ensures
