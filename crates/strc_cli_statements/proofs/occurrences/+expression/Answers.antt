use Rattle.std.proofs.Common.{◌≡◌, ◌+◌, ◌++◌, drop, replicate, sym, ap, ◌∙◌, rules}
use Rattle.std.proofs.lemmas.Result.{on_ok_weaker}
use Rattle.strc_parse_tree.specs.View.{expr_view, listed_view}
use Rattle.strc_parse_tree.proofs.Calls.{expr_view-Call, listed_view-drop}
use Rattle.strc_cli_statements.specs.Occurrences.{expression_count, arguments_count, one}
use Rattle.strc_cli_statements.specs.declared.occurrences.Sought.TheVariants as sought
use Rattle.strc_cli_statements.proofs.Walks.{here_more, call_here, then_here, then_thrice}
use Rattle.strc_cli_statements.proofs.occurrences.+expression.Goals.{walk_expression-else-divides-via-then-divides+else-can_be_zero}
use Rattle.strc_cli_statements.proofs.occurrences.+expression.Goals.{walk_expression-else-divides-via-else-divides}
use Rattle.strc_cli_statements.proofs.occurrences.+expression.Goals as goal

pub walk_arguments-loop-argument-preserved : goal.walk_arguments-loop-argument-preserved
walk_arguments-loop-argument-preserved t c =
    let all = c.args.arguments.now in
    let i = c.loop-argument.argument-index in
    let looked = c.args.walk.now.sought in
    let here = c.args.here in
    let x = expr_view c.argument-item.result in
    let before = c.loop-argument.walk.found.items in
    let same = c.loop-argument.invariant.sought in
    record {
      marks = here_more before c.walk_expression.new.walk.found.items _ here
          (expression_count looked x) (arguments_count looked (listed_view (drop (i + 1) all))) _
          (c.in_ok-walk_expression.ensures.marks
          ∙ ap (λ s. before ++ replicate (expression_count s x) here) same)
          (ap (arguments_count looked) (listed_view-drop all i c.argument-item.result
          c.loop-argument-test.true c.argument-item.is)) c.loop-argument.invariant.marks;
      sought = c.in_ok-walk_expression.ensures.sought ∙ same;
    }

pub walk_expression-returns-in_ok-walk_arguments-in-Call-clause-marks :
    goal.walk_expression-returns-in_ok-walk_arguments-in-Call-clause-marks
walk_expression-returns-in_ok-walk_arguments-in-Call-clause-marks t c =
    let looked = c.args.walk.now.sought in
    let here = c.args.here in
    let before = c.args.walk.now.found.items in
    let passed = c.walk_arguments.new.walk.found.items in
    let is_kept = c.in_ok-walk_arguments-in-Call.ensures.sought in
    let same =
    ap (λ items. arguments_count looked (listed_view items) + one looked sought.Call
    + one looked sought.Turn) c.deref-in-Call.ensures.value
    ∙ ap (expression_count looked) (sym (expr_view-Call c.in-Call.field-0 c.in-Call.arguments))
    ∙ ap (λ e. expression_count looked (expr_view e)) (sym c.in-Call.is) in
    on_ok_weaker c.called.result
    (λ h. call_here before passed c.called.new.self.found.items _
    (one looked sought.Call) (one looked sought.Turn) here
    c.in_ok-walk_arguments-in-Call.ensures.marks
    (h ∙ ap (λ s. passed ++ replicate (one s sought.Call + one s sought.Turn) here) is_kept)
    ∙ ap (λ n. before ++ replicate n here) same) c.called.ensures.marks

pub walk_expression-returns-in_ok-meet-in-Binary-clause-marks :
    goal.walk_expression-returns-in_ok-meet-in-Binary-clause-marks
walk_expression-returns-in_ok-meet-in-Binary-clause-marks t c =
    let looked = c.args.walk.now.sought in
    let here = c.args.here in
    let old = c.args.walk.now.found.items in
    let left = expr_view c.deref-in-Binary.result.now in
    let right = expr_view c.deref-in-Binary-2.result.now in
    let kept = c.in_ok-walk_expression-in-Binary.ensures.sought in
    let kept_2 = c.in_ok-walk_expression-in-Binary-2.ensures.sought ∙ kept in
    let middle = c.walk_expression-in-Binary.new.walk.found.items in
    let after = c.walk_expression-in-Binary-2.new.walk.found.items in
    let whole : expression_count looked left + expression_count looked right
    + one looked sought.Division ≡ expression_count looked (expr_view c.args.value.now) =
    search rules in
    then_thrice old middle after c.meet-then-can_be_zero.new.self.found.items
    (expression_count looked left) (expression_count looked right) (one looked sought.Division) here
    c.in_ok-walk_expression-in-Binary.ensures.marks
    (c.in_ok-walk_expression-in-Binary-2.ensures.marks
    ∙ ap (λ s. middle ++ replicate (expression_count s right) here) kept)
    (c.in_ok-meet-in-Binary.ensures.marks
    ∙ ap (λ s. after ++ replicate (one s sought.Division) here) kept_2)
    ∙ ap (λ n. old ++ replicate n here) whole

pub walk_expression-returns-else-divides-clause-marks :
    goal.walk_expression-returns-else-divides-clause-marks
walk_expression-returns-else-divides-clause-marks t c =
    let looked = c.args.walk.now.sought in
    let here = c.args.here in
    let old = c.args.walk.now.found.items in
    let left = expr_view c.deref-in-Binary.result.now in
    let right = expr_view c.deref-in-Binary-2.result.now in
    let kept = c.in_ok-walk_expression-in-Binary.ensures.sought in
    let middle = c.walk_expression-in-Binary.new.walk.found.items in
    let whole : expression_count looked left + expression_count looked right
    ≡ expression_count looked (expr_view c.args.value.now) =
    elim c.else-divides.branch [
      | walk_expression-else-divides-via-then-divides+else-can_be_zero w ↦ search rules
      | walk_expression-else-divides-via-else-divides w ↦ search rules
    ] in
    then_here old middle c.walk_expression-in-Binary-2.new.walk.found.items
    (expression_count looked left) (expression_count looked right) here
    c.in_ok-walk_expression-in-Binary.ensures.marks
    (c.in_ok-walk_expression-in-Binary-2.ensures.marks
    ∙ ap (λ s. middle ++ replicate (expression_count s right) here) kept)
    ∙ ap (λ n. old ++ replicate n here) whole

pub walk_expression-returns-in_ok-walk_expression-in-Conditional-2-clause-marks :
    goal.walk_expression-returns-in_ok-walk_expression-in-Conditional-2-clause-marks
walk_expression-returns-in_ok-walk_expression-in-Conditional-2-clause-marks t c =
    let looked = c.args.walk.now.sought in
    let here = c.args.here in
    let old = c.args.walk.now.found.items in
    let condition = expr_view c.deref-in-Conditional.result.now in
    let chosen = expr_view c.deref-in-Conditional-2.result.now in
    let other = expr_view c.deref-in-Conditional-3.result.now in
    let kept = c.in_ok-walk_expression-in-Conditional.ensures.sought in
    let kept_2 = c.in_ok-walk_expression-in-Conditional-2.ensures.sought ∙ kept in
    let middle = c.walk_expression-in-Conditional.new.walk.found.items in
    let after = c.walk_expression-in-Conditional-2.new.walk.found.items in
    let whole : expression_count looked condition + expression_count looked chosen
    + expression_count looked other ≡ expression_count looked (expr_view c.args.value.now) =
    search rules in
    on_ok_weaker c.walk_expression-in-Conditional-3.result
    (λ h. then_thrice old middle after c.walk_expression-in-Conditional-3.new.walk.found.items
    (expression_count looked condition) (expression_count looked chosen)
    (expression_count looked other) here c.in_ok-walk_expression-in-Conditional.ensures.marks
    (c.in_ok-walk_expression-in-Conditional-2.ensures.marks
    ∙ ap (λ s. middle ++ replicate (expression_count s chosen) here) kept)
    (h ∙ ap (λ s. after ++ replicate (expression_count s other) here) kept_2)
    ∙ ap (λ n. old ++ replicate n here) whole) c.walk_expression-in-Conditional-3.ensures.marks
