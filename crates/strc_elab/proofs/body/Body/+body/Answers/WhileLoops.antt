-- The iterations of a `while`.
use Rattle.std.proofs.Common.{rules, ◌≡◌, suc, true, false, length, Option, Some, Ok, Err}
use Rattle.std.proofs.Common.{refl, sym, ap, ◌∙◌, subst, arith}
use Rattle.strc_parse_tree.specs.Tree as tree
use Rattle.strc_parse_tree.specs.View.{expr_view, stmt_view}
use Rattle.strc_work_meaning.specs.Arithmetic.{is_true}
use Rattle.strc_work_meaning.specs.Firing as firing
use Rattle.strc_work_meaning.specs.Firing.{turn_limit}
use Rattle.strc_elab.specs.Elaboration as spec
use Rattle.strc_elab_statements.specs.Statements.{computed}
use Rattle.strc_elab.specs.Elaboration.{condition_evaluated, inside, stmt_run}
use Rattle.strc_elab_statements.specs.Answers.{IsRefusal}
use Rattle.strc_elab.specs.Answering.{Runs, progress_of, Traces, IsPlaceOf}
use Rattle.strc_elab.specs.Places.{stmt_trace, while_trace}
use Rattle.strc_elab.specs.Loops.{while_looped}
use Rattle.strc_elab_statements.specs.Saying.{store_of}
use Rattle.strc_elab.specs.Tasks.{setting_of, tracing_of}
use Rattle.strc_elab.proofs.LoopPlaces.{Turn, test_placed, turn_placed, body_placed, trace_goes_on}
use Rattle.strc_elab.proofs.LoopPlaces.{trace_ends, trace_over}
use Rattle.strc_elab.proofs.LoopRuns.{Test, Step, test_refused, loop_ends, turn_refused}
use Rattle.strc_elab.proofs.LoopRuns.{body_refused, loop_goes_on, loop_over}
use Rattle.strc_elab.proofs.Places.{placed_at, placed_among}
use Rattle.strc_elab.proofs.Places.{moved_among}
use Rattle.strc_elab.proofs.body.Body.+body.Goals as goal

pub while_turns-loop-round-init : goal.while_turns-loop-round-init
while_turns-loop-round-init g t c =
    record {
      names = refl;
      left = λ fuel e. let same : fuel ≡ suc turn_limit = omega (arith, e) in
          ap (λ n. while_looped (setting_of c.args.self.now.task)
          c.args.progress.now.store.variables.names (expr_view c.args.condition.now)
          (stmt_view c.args.body.now) n (progress_of c.args.progress.now)) same;
      trace = λ fuel e. let same : fuel ≡ suc turn_limit = omega (arith, e) in
          ap (λ n. while_trace (tracing_of c.args.self.now.task)
          c.args.progress.now.store.variables.names (expr_view c.args.condition.now)
          c.args.body.now n (progress_of c.args.progress.now) c.args.progress.now.trace) same;
    }

pub while_turns-returns-in_err-eval_condition-clause-runs :
    goal.while_turns-returns-in_err-eval_condition-clause-runs
while_turns-returns-in_err-eval_condition-clause-runs g t c =
    let setting = setting_of c.args.self.now.task in
    let names = c.args.progress.now.store.variables.names in
    let condition : Option tree.Expr = Some (expr_view c.args.condition.now) in
    let test : Test = condition_evaluated setting names condition in
    let body : Step = inside (stmt_run setting names (length names) (stmt_view c.args.body.now)) in
    let whole = while_looped setting names (expr_view c.args.condition.now)
    (stmt_view c.args.body.now) (suc turn_limit) (progress_of c.args.progress.now) in
    let round = c.loop-round._round in
    let left = c.loop-round.invariant.left in
    let m = progress_of c.loop-round.progress in
    let e = c.in_err-eval_condition.field-0.0 in
    let met : IsRefusal (test m) e = subst
    (λ n. IsRefusal (condition_evaluated setting n condition m) e)
    c.loop-round.invariant.names c.in_err-eval_condition.ensures.tests in
    let reported : Runs whole (Err e) (progress_of c.eval_condition.new.progress) =
    test_refused test body round m whole e c.loop-round-test.true left met in
    search rules

pub while_turns-returns-then-not-is_true-clause-runs :
    goal.while_turns-returns-then-not-is_true-clause-runs
while_turns-returns-then-not-is_true-clause-runs g t c =
    let setting = setting_of c.args.self.now.task in
    let names = c.args.progress.now.store.variables.names in
    let condition : Option tree.Expr = Some (expr_view c.args.condition.now) in
    let test : Test = condition_evaluated setting names condition in
    let body : Step = inside (stmt_run setting names (length names) (stmt_view c.args.body.now)) in
    let whole = while_looped setting names (expr_view c.args.condition.now)
    (stmt_view c.args.body.now) (suc turn_limit) (progress_of c.args.progress.now) in
    let round = c.loop-round._round in
    let left = c.loop-round.invariant.left in
    let m = progress_of c.loop-round.progress in
    let tested = progress_of c.eval_condition.new.progress in
    let value = c.in_ok-eval_condition.field-0 in
    let met : test m ≡ Ok (value, tested) =
    subst (λ n. condition_evaluated setting n condition m ≡ Ok (value, tested))
    c.loop-round.invariant.names c.in_ok-eval_condition.ensures.tests in
    let truth : c.is_true.result ≡ is_true value = search rules in
    let ends : is_true value ≡ false = sym truth ∙ c.if-not-is_true.true in
    loop_ends test body round m tested value whole c.loop-round-test.true left met ends

pub while_turns-returns-in_err-turn-clause-runs : goal.while_turns-returns-in_err-turn-clause-runs
while_turns-returns-in_err-turn-clause-runs g t c =
    let setting = setting_of c.args.self.now.task in
    let names = c.args.progress.now.store.variables.names in
    let condition : Option tree.Expr = Some (expr_view c.args.condition.now) in
    let test : Test = condition_evaluated setting names condition in
    let body : Step = inside (stmt_run setting names (length names) (stmt_view c.args.body.now)) in
    let whole = while_looped setting names (expr_view c.args.condition.now)
    (stmt_view c.args.body.now) (suc turn_limit) (progress_of c.args.progress.now) in
    let round = c.loop-round._round in
    let left = c.loop-round.invariant.left in
    let m = progress_of c.loop-round.progress in
    let tested = progress_of c.eval_condition.new.progress in
    let value = c.in_ok-eval_condition.field-0 in
    let met : test m ≡ Ok (value, tested) =
    subst (λ n. condition_evaluated setting n condition m ≡ Ok (value, tested))
    c.loop-round.invariant.names c.in_ok-eval_condition.ensures.tests in
    let truth : c.is_true.result ≡ is_true value = search rules in
    let holds : is_true value ≡ true = sym truth ∙ c.if-not-is_true.false in
    let e = c.in_err-turn.field-0.0 in
    let over : IsRefusal (computed (firing.turned tested.store)) e = c.in_err-turn.ensures.done in
    let reported : Runs whole (Err e) (record tested { store = store_of c.turn.new.store }) =
    turn_refused test body round m tested value whole e c.loop-round-test.true left met holds
    over in
    search rules

pub while_turns-returns-in_err-inside-clause-runs :
    goal.while_turns-returns-in_err-inside-clause-runs
while_turns-returns-in_err-inside-clause-runs g t c =
    let setting = setting_of c.args.self.now.task in
    let names = c.args.progress.now.store.variables.names in
    let condition : Option tree.Expr = Some (expr_view c.args.condition.now) in
    let test : Test = condition_evaluated setting names condition in
    let body : Step = inside (stmt_run setting names (length names) (stmt_view c.args.body.now)) in
    let whole = while_looped setting names (expr_view c.args.condition.now)
    (stmt_view c.args.body.now) (suc turn_limit) (progress_of c.args.progress.now) in
    let round = c.loop-round._round in
    let left = c.loop-round.invariant.left in
    let m = progress_of c.loop-round.progress in
    let tested = progress_of c.eval_condition.new.progress in
    let value = c.in_ok-eval_condition.field-0 in
    let met : test m ≡ Ok (value, tested) =
    subst (λ n. condition_evaluated setting n condition m ≡ Ok (value, tested))
    c.loop-round.invariant.names c.in_ok-eval_condition.ensures.tests in
    let truth : c.is_true.result ≡ is_true value = search rules in
    let holds : is_true value ≡ true = sym truth ∙ c.if-not-is_true.false in
    let store = store_of c.turn.new.store in
    let turning : spec.Progress = record tested { store = store } in
    let turn : computed (firing.turned tested.store) ≡ Ok store = c.in_ok-turn.ensures.done in
    let same : c.turn.new.store.variables.names ≡ names =
    c.turn.ensures.names ∙ c.eval_condition.ensures.names ∙ c.loop-round.invariant.names in
    let e = c.in_err-inside.field-0.0 in
    let no : IsRefusal (body turning) e =
    subst (λ n. IsRefusal (inside (stmt_run setting n (length n) (stmt_view c.args.body.now))
    turning) e) same c.in_err-inside.ensures.runs in
    let reported : Runs whole (Err e) (progress_of c.inside.new.progress) =
    body_refused test body round m tested value store whole e c.loop-round-test.true left met
    holds turn no in
    search rules

pub while_turns-loop-round-preserved : goal.while_turns-loop-round-preserved
while_turns-loop-round-preserved g t c =
    let setting = setting_of c.args.self.now.task in
    let names = c.args.progress.now.store.variables.names in
    let condition : Option tree.Expr = Some (expr_view c.args.condition.now) in
    let test : Test = condition_evaluated setting names condition in
    let body : Step = inside (stmt_run setting names (length names) (stmt_view c.args.body.now)) in
    let whole = while_looped setting names (expr_view c.args.condition.now)
    (stmt_view c.args.body.now) (suc turn_limit) (progress_of c.args.progress.now) in
    let round = c.loop-round._round in
    let left = c.loop-round.invariant.left in
    let m = progress_of c.loop-round.progress in
    let tested = progress_of c.eval_condition.new.progress in
    let value = c.in_ok-eval_condition.field-0 in
    let met : test m ≡ Ok (value, tested) =
    subst (λ n. condition_evaluated setting n condition m ≡ Ok (value, tested))
    c.loop-round.invariant.names c.in_ok-eval_condition.ensures.tests in
    let truth : c.is_true.result ≡ is_true value = search rules in
    let holds : is_true value ≡ true = sym truth ∙ c.if-not-is_true.false in
    let store = store_of c.turn.new.store in
    let turning : spec.Progress = record tested { store = store } in
    let turn : computed (firing.turned tested.store) ≡ Ok store = c.in_ok-turn.ensures.done in
    let same : c.turn.new.store.variables.names ≡ names =
    c.turn.ensures.names ∙ c.eval_condition.ensures.names ∙ c.loop-round.invariant.names in
    let after = progress_of c.inside.new.progress in
    let ran : body turning ≡ Ok after = subst
    (λ n. inside (stmt_run setting n (length n) (stmt_view c.args.body.now)) turning
    ≡ Ok after) same c.in_ok-inside.ensures.runs in
    let tracing = tracing_of c.args.self.now.task in
    let trace = c.loop-round.progress.trace in
    let trace' = c.inside.new.progress.trace in
    let s = c.args.body.now in
    let traced : Turn = stmt_trace tracing names (length names) s in
    let whole_trace = while_trace tracing names (expr_view c.args.condition.now) s (suc turn_limit)
    (progress_of c.args.progress.now) c.args.progress.now.trace in
    let moved : trace' ≡ traced turning trace =
    moved_among (λ n t. stmt_trace tracing n (length n) s turning t) names
    c.turn.new.store.variables.names trace c.eval_condition.new.progress.trace trace' same
    c.eval_condition.ensures.trace c.in_ok-inside.ensures.trace in
    record {
      names = c.in_ok-inside.ensures.names ∙ same;
      left = loop_goes_on test body round m tested after value store whole c.loop-round-test.true
          left met holds turn ran;
      trace = trace_goes_on test body traced round m tested after value store trace trace'
          whole_trace c.loop-round-test.true c.loop-round.invariant.trace met holds turn ran moved;
    }

pub while_turns-returns-clause-runs : goal.while_turns-returns-clause-runs
while_turns-returns-clause-runs g t c =
    let setting = setting_of c.args.self.now.task in
    let names = c.args.progress.now.store.variables.names in
    let condition : Option tree.Expr = Some (expr_view c.args.condition.now) in
    let test : Test = condition_evaluated setting names condition in
    let body : Step = inside (stmt_run setting names (length names) (stmt_view c.args.body.now)) in
    let whole = while_looped setting names (expr_view c.args.condition.now)
    (stmt_view c.args.body.now) (suc turn_limit) (progress_of c.args.progress.now) in
    let round = c.loop-round._round in
    let left = c.loop-round.invariant.left in
    let m = progress_of c.loop-round.progress in
    subst (λ e. IsRefusal whole e) (sym c.fault.ensures)
    (loop_over test body round m whole (omega (arith, c.loop-round-test.false))
    (omega (arith, c.loop-round.auto._round-end)) left)

pub while_turns-returns-in_err-eval_condition-clause-trace :
    goal.while_turns-returns-in_err-eval_condition-clause-trace
while_turns-returns-in_err-eval_condition-clause-trace g t c =
    let setting = setting_of c.args.self.now.task in
    let tracing = tracing_of c.args.self.now.task in
    let names = c.args.progress.now.store.variables.names in
    let p = progress_of c.args.progress.now in
    let condition : Option tree.Expr = Some (expr_view c.args.condition.now) in
    let test : Test = condition_evaluated setting names condition in
    let s = c.args.body.now in
    let body : Step = inside (stmt_run setting names (length names) (stmt_view s)) in
    let traced : Turn = stmt_trace tracing names (length names) s in
    let whole = while_trace tracing names (expr_view c.args.condition.now) s (suc turn_limit) p
    c.args.progress.now.trace in
    let round = c.loop-round._round in
    let left = c.loop-round.invariant.trace in
    let m = progress_of c.loop-round.progress in
    let trace = c.loop-round.progress.trace in
    let e = c.in_err-eval_condition.field-0.0 in
    let after = c.eval_condition.new.progress.trace in
    let refuses : IsRefusal (test m) e = subst
    (λ n. IsRefusal (condition_evaluated setting n condition m) e)
    c.loop-round.invariant.names c.in_err-eval_condition.ensures.tests in
    let reported : Traces {X = Unit {0}} (Err e) whole after =
    test_placed test body traced round m trace whole after.here e c.loop-round-test.true left
    refuses (ap (λ t. t.here) c.eval_condition.ensures.trace) in
    search rules

pub while_turns-returns-then-not-is_true-clause-trace :
    goal.while_turns-returns-then-not-is_true-clause-trace
while_turns-returns-then-not-is_true-clause-trace g t c =
    let setting = setting_of c.args.self.now.task in
    let tracing = tracing_of c.args.self.now.task in
    let names = c.args.progress.now.store.variables.names in
    let p = progress_of c.args.progress.now in
    let condition : Option tree.Expr = Some (expr_view c.args.condition.now) in
    let test : Test = condition_evaluated setting names condition in
    let s = c.args.body.now in
    let body : Step = inside (stmt_run setting names (length names) (stmt_view s)) in
    let traced : Turn = stmt_trace tracing names (length names) s in
    let whole = while_trace tracing names (expr_view c.args.condition.now) s (suc turn_limit) p
    c.args.progress.now.trace in
    let round = c.loop-round._round in
    let left = c.loop-round.invariant.trace in
    let m = progress_of c.loop-round.progress in
    let trace = c.loop-round.progress.trace in
    let tested = progress_of c.eval_condition.new.progress in
    let value = c.in_ok-eval_condition.field-0 in
    let met : test m ≡ Ok (value, tested) =
    subst (λ n. condition_evaluated setting n condition m ≡ Ok (value, tested))
    c.loop-round.invariant.names c.in_ok-eval_condition.ensures.tests in
    let truth : c.is_true.result ≡ is_true value = search rules in
    let ends : is_true value ≡ false = sym truth ∙ c.if-not-is_true.true in
    c.eval_condition.ensures.trace
    ∙ sym (trace_ends test body traced round m tested value trace whole c.loop-round-test.true left
    met ends)

pub while_turns-returns-in_err-turn-clause-trace : goal.while_turns-returns-in_err-turn-clause-trace
while_turns-returns-in_err-turn-clause-trace g t c =
    let setting = setting_of c.args.self.now.task in
    let tracing = tracing_of c.args.self.now.task in
    let names = c.args.progress.now.store.variables.names in
    let p = progress_of c.args.progress.now in
    let condition : Option tree.Expr = Some (expr_view c.args.condition.now) in
    let test : Test = condition_evaluated setting names condition in
    let s = c.args.body.now in
    let body : Step = inside (stmt_run setting names (length names) (stmt_view s)) in
    let traced : Turn = stmt_trace tracing names (length names) s in
    let whole = while_trace tracing names (expr_view c.args.condition.now) s (suc turn_limit) p
    c.args.progress.now.trace in
    let round = c.loop-round._round in
    let left = c.loop-round.invariant.trace in
    let m = progress_of c.loop-round.progress in
    let trace = c.loop-round.progress.trace in
    let tested = progress_of c.eval_condition.new.progress in
    let value = c.in_ok-eval_condition.field-0 in
    let met : test m ≡ Ok (value, tested) =
    subst (λ n. condition_evaluated setting n condition m ≡ Ok (value, tested))
    c.loop-round.invariant.names c.in_ok-eval_condition.ensures.tests in
    let truth : c.is_true.result ≡ is_true value = search rules in
    let holds : is_true value ≡ true = sym truth ∙ c.if-not-is_true.false in
    let e = c.in_err-turn.field-0.0 in
    let after = c.eval_condition.new.progress.trace in
    let reported : Traces {X = Unit {0}} (Err e) whole after =
    turn_placed test body traced round m tested value trace whole after.here e
    c.loop-round-test.true left met holds c.in_err-turn.ensures.done
    (ap (λ t. t.here) c.eval_condition.ensures.trace) in
    search rules

pub while_turns-returns-in_err-inside-clause-trace :
    goal.while_turns-returns-in_err-inside-clause-trace
while_turns-returns-in_err-inside-clause-trace g t c =
    let setting = setting_of c.args.self.now.task in
    let tracing = tracing_of c.args.self.now.task in
    let names = c.args.progress.now.store.variables.names in
    let p = progress_of c.args.progress.now in
    let condition : Option tree.Expr = Some (expr_view c.args.condition.now) in
    let test : Test = condition_evaluated setting names condition in
    let s = c.args.body.now in
    let body : Step = inside (stmt_run setting names (length names) (stmt_view s)) in
    let traced : Turn = stmt_trace tracing names (length names) s in
    let whole = while_trace tracing names (expr_view c.args.condition.now) s (suc turn_limit) p
    c.args.progress.now.trace in
    let round = c.loop-round._round in
    let left = c.loop-round.invariant.trace in
    let m = progress_of c.loop-round.progress in
    let trace = c.loop-round.progress.trace in
    let tested = progress_of c.eval_condition.new.progress in
    let value = c.in_ok-eval_condition.field-0 in
    let met : test m ≡ Ok (value, tested) =
    subst (λ n. condition_evaluated setting n condition m ≡ Ok (value, tested))
    c.loop-round.invariant.names c.in_ok-eval_condition.ensures.tests in
    let truth : c.is_true.result ≡ is_true value = search rules in
    let holds : is_true value ≡ true = sym truth ∙ c.if-not-is_true.false in
    let store = store_of c.turn.new.store in
    let turning : spec.Progress = record tested { store = store } in
    let turn : computed (firing.turned tested.store) ≡ Ok store = c.in_ok-turn.ensures.done in
    let same : c.turn.new.store.variables.names ≡ names =
    c.turn.ensures.names ∙ c.eval_condition.ensures.names ∙ c.loop-round.invariant.names in
    let e = c.in_err-inside.field-0.0 in
    let after = c.inside.new.progress.trace in
    let own = stmt_trace tracing names (length names) s turning trace in
    let refuses : IsRefusal (body turning) e =
    subst (λ n. IsRefusal (inside (stmt_run setting n (length n) (stmt_view s)) turning) e) same
    c.in_err-inside.ensures.runs in
    let at : IsPlaceOf e own.here after.here =
    placed_among e (λ n t. stmt_trace tracing n (length n) s turning t) names
    c.turn.new.store.variables.names trace c.eval_condition.new.progress.trace after.here same
    c.eval_condition.ensures.trace c.in_err-inside.ensures.trace in
    let reported : Traces {X = Unit {0}} (Err e) whole after =
    body_placed test body traced round m tested value store trace whole after.here e
    c.loop-round-test.true left met holds turn refuses at in
    search rules

pub while_turns-returns-clause-trace : goal.while_turns-returns-clause-trace
while_turns-returns-clause-trace g t c =
    let setting = setting_of c.args.self.now.task in
    let tracing = tracing_of c.args.self.now.task in
    let names = c.args.progress.now.store.variables.names in
    let p = progress_of c.args.progress.now in
    let condition : Option tree.Expr = Some (expr_view c.args.condition.now) in
    let test : Test = condition_evaluated setting names condition in
    let s = c.args.body.now in
    let body : Step = inside (stmt_run setting names (length names) (stmt_view s)) in
    let traced : Turn = stmt_trace tracing names (length names) s in
    let whole = while_trace tracing names (expr_view c.args.condition.now) s (suc turn_limit) p
    c.args.progress.now.trace in
    let round = c.loop-round._round in
    let left = c.loop-round.invariant.trace in
    let m = progress_of c.loop-round.progress in
    let trace = c.loop-round.progress.trace in
    placed_at c.fault.result whole.here trace.here
    (ap (λ t. t.here) (sym (trace_over test body traced round m trace whole
    (omega (arith, c.loop-round-test.false)) (omega (arith, c.loop-round.auto._round-end)) left)))
