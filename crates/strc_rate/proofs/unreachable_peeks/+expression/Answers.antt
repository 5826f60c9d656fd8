use Rattle.std.proofs.Common.{◌+◌, ◌++◌, drop, sym, ap, ◌∙◌}
use Rattle.std.proofs.lemmas.Result.{on_ok_weaker}
use Rattle.strc_parse_tree.specs.View.{expr_view, listed_view}
use Rattle.strc_parse_tree.proofs.Calls.{expr_view-Call, listed_view-drop}
use Rattle.strc_rate.specs.Entries.{peeks_of_expr, peeks_of_arguments}
use Rattle.strc_rate.specs.Peeks.{unreached}
use Rattle.strc_rate.proofs.Unreaching.{arguments_unreached}
use Rattle.strc_rate.proofs.unreachable_peeks.+expression.Goals as goal

pub skip_arguments-loop-argument-preserved : goal.skip_arguments-loop-argument-preserved
skip_arguments-loop-argument-preserved t c =
    let all = c.args.arguments.now in
    let i = c.loop-argument.argument-index in
    let x = expr_view c.argument-item.result in
    let rest = listed_view (drop (i + 1) all) in
    arguments_unreached c.loop-argument.sites.items c.skip_expression.new.sites.items _ x rest
    (listed_view (drop i all)) c.in_ok-skip_expression.ensures
    (listed_view-drop all i c.argument-item.result c.loop-argument-test.true c.argument-item.is)
    c.loop-argument.invariant

pub skip_expression-returns-in-Call : goal.skip_expression-returns-in-Call
skip_expression-returns-in-Call t c =
    let same =
    ap (λ items. peeks_of_arguments (listed_view items)) c.deref.ensures.value
    ∙ ap peeks_of_expr (sym (expr_view-Call c.in-Call.field-0 c.in-Call.arguments))
    ∙ ap (λ e. peeks_of_expr (expr_view e)) (sym c.in-Call.is) in
    on_ok_weaker c.skip_arguments.result
    (λ h. h ∙ ap (λ p. c.args.sites.now.items ++ unreached p) same) c.skip_arguments.ensures
