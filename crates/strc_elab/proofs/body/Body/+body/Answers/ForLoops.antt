-- A `for`, and its iterations.
use Rattle.std.proofs.Common.{rules, ◌≡◌, suc, true, false, length, Option, Ok, Err}
use Rattle.std.proofs.Common.{refl, sym, ap, ◌∙◌, subst, arith}
use Rattle.std.specs.Option.{option_map}
use Rattle.strc_lex_names.specs.Results.{result_and_then}
use Rattle.strc_parse_tree.specs.Tree as tree
use Rattle.strc_parse_tree.specs.View.{expr_view, stmt_view}
use Rattle.strc_work_meaning.specs.Arithmetic.{is_true}
use Rattle.strc_work_meaning.specs.Firing as firing
use Rattle.strc_work_meaning.specs.Firing.{turn_limit}
use Rattle.strc_work_meaning.specs.Typing.{names_after}
use Rattle.strc_elab.specs.Elaboration as spec
use Rattle.strc_elab_statements.specs.Statements.{computed}
use Rattle.strc_elab.specs.Elaboration.{condition_evaluated, inside, stmt_run}
use Rattle.strc_elab_statements.specs.Answers.{IsRefusal}
use Rattle.strc_elab.specs.Answering.{Runs, progress_of, Traces, IsPlaceOf}
use Rattle.strc_elab.specs.Places.{stmt_trace, for_trace}
use Rattle.strc_elab.specs.Places.{for_turns_trace, turn_trace}
use Rattle.strc_elab.specs.Loops.{for_looped}
use Rattle.strc_elab_statements.specs.Saying.{store_of}
use Rattle.strc_elab.specs.Tasks.{setting_of, tracing_of}
use Rattle.strc_elab.proofs.Bodies.{inside_refused, inside_ran, left_is}
use Rattle.strc_elab.proofs.Bodies.{statement_names_left}
use Rattle.strc_elab.proofs.Bodies.{for_runs}
use Rattle.strc_elab.proofs.LoopPlaces.{Turn, test_placed, turn_placed, body_placed, trace_goes_on}
use Rattle.strc_elab.proofs.LoopPlaces.{trace_ends, trace_over}
use Rattle.strc_elab.proofs.LoopRuns.{Test, Step, test_refused, loop_ends, turn_refused}
use Rattle.strc_elab.proofs.LoopRuns.{body_refused, loop_goes_on, loop_over}
use Rattle.strc_elab_statements.proofs.Refusals.{refused_same, first_refused, second_refused}
use Rattle.strc_elab_statements.proofs.Refusals.{both_done}
use Rattle.strc_elab.proofs.Places.{placed_at, placed_among, first_placed}
use Rattle.strc_elab.proofs.Places.{second_placed, both_traced, moved_among}
use Rattle.strc_elab.proofs.body.Body.+body.Goals as goal

pub for_loop-returns-in_err-statement-clause-runs :
    goal.for_loop-returns-in_err-statement-clause-runs
for_loop-returns-in_err-statement-clause-runs g t c =
    let setting = setting_of c.args.self.now.task in
    let names = c.args.progress.now.store.variables.names in
    let p = progress_of c.args.progress.now in
    let first = stmt_view c.args.first.now in
    let condition = option_map (λ e. expr_view e.now) c.args.condition in
    let e = c.in_err-statement.field-0.0 in
    let no : IsRefusal (stmt_run setting names (length names) first p) e = subst
    (λ n. IsRefusal (stmt_run setting names n first p) e)
    c.count-start.ensures.names c.in_err-statement.ensures.runs in
    let loop : Step = for_looped setting (names_after names first) condition
    (stmt_view c.args.step.now) (stmt_view c.args.body.now) (suc turn_limit) in
    let runs : Step = λ outside.
    result_and_then (stmt_run setting names (length names) first outside) loop in
    let reported : Runs (inside runs p) (Err e) (progress_of c.statement.new.progress) =
    inside_refused runs p e
    (first_refused (stmt_run setting names (length names) first p) loop e no) in
    search rules

pub for_loop-returns-in_err-for_turns-clause-runs :
    goal.for_loop-returns-in_err-for_turns-clause-runs
for_loop-returns-in_err-for_turns-clause-runs g t c =
    let setting = setting_of c.args.self.now.task in
    let names = c.args.progress.now.store.variables.names in
    let p = progress_of c.args.progress.now in
    let start = c.count-start.result in
    let first = stmt_view c.args.first.now in
    let step = stmt_view c.args.step.now in
    let body = stmt_view c.args.body.now in
    let condition = option_map (λ e. expr_view e.now) c.args.condition in
    let begun = progress_of c.statement.new.progress in
    let names' = c.statement.new.progress.store.variables.names in
    let loop : Step = λ outside. for_looped setting names' condition step body
    (suc turn_limit) begun in
    let whole = for_runs setting names names' 0 start first step body condition p begun
    c.count-start.ensures.names c.in_ok-statement.ensures.runs
    c.in_ok-statement.ensures.names in
    let e = c.in_err-for_turns.field-0.0 in
    let runs = stmt_run setting names 0 (tree.For first condition step body) p in
    let reported : Runs runs (Err e) (progress_of c.for_turns.new.progress) =
    refused_same (inside loop p) runs e whole
    (inside_refused loop p e c.in_err-for_turns.ensures.runs) in
    search rules

pub for_loop-returns-clause-runs : goal.for_loop-returns-clause-runs
for_loop-returns-clause-runs g t c =
    let setting = setting_of c.args.self.now.task in
    let names = c.args.progress.now.store.variables.names in
    let p = progress_of c.args.progress.now in
    let start = c.count-start.result in
    let first = stmt_view c.args.first.now in
    let step = stmt_view c.args.step.now in
    let body = stmt_view c.args.body.now in
    let condition = option_map (λ e. expr_view e.now) c.args.condition in
    let begun = progress_of c.statement.new.progress in
    let names' = c.statement.new.progress.store.variables.names in
    let loop : Step = λ outside. for_looped setting names' condition step body
    (suc turn_limit) begun in
    let whole = for_runs setting names names' 0 start first step body condition p begun
    c.count-start.ensures.names c.in_ok-statement.ensures.runs
    c.in_ok-statement.ensures.names in
    let after = progress_of c.for_turns.new.progress in
    whole ∙ inside_ran loop p after c.in_ok-for_turns.ensures.runs
    ∙ ap (λ (r : spec.Progress). Ok r) (left_is p after c.leave.new.self.variables start
    c.count-start.ensures.variables (ap (λ b. b.variables) c.leave.ensures))

pub for_loop-returns-clause-names : goal.for_loop-returns-clause-names
for_loop-returns-clause-names g t c =
    statement_names_left c.args.progress.now.store.variables.names
    c.for_turns.new.progress.store.variables.names c.leave.new.self.names
    (stmt_view c.args.first.now) c.count-start.result c.count-start.ensures.names
    (c.in_ok-for_turns.ensures.names ∙ c.in_ok-statement.ensures.names)
    (ap (λ b. b.names) c.leave.ensures)

pub for_turns-loop-round-init : goal.for_turns-loop-round-init
for_turns-loop-round-init g t c =
    record {
      names = refl;
      left = λ fuel e. let same : fuel ≡ suc turn_limit = omega (arith, e) in
          ap (λ n. for_looped (setting_of c.args.self.now.task)
          c.args.progress.now.store.variables.names
          (option_map (λ e. expr_view e.now) c.args.condition) (stmt_view c.args.step.now)
          (stmt_view c.args.body.now) n (progress_of c.args.progress.now)) same;
      trace = λ fuel e. let same : fuel ≡ suc turn_limit = omega (arith, e) in
          ap (λ n. for_turns_trace (tracing_of c.args.self.now.task)
          c.args.progress.now.store.variables.names
          (option_map (λ e. expr_view e.now) c.args.condition) c.args.step.now
          c.args.body.now n (progress_of c.args.progress.now) c.args.progress.now.trace) same;
    }

pub for_turns-returns-in_err-eval_condition-clause-runs :
    goal.for_turns-returns-in_err-eval_condition-clause-runs
for_turns-returns-in_err-eval_condition-clause-runs g t c =
    let setting = setting_of c.args.self.now.task in
    let names = c.args.progress.now.store.variables.names in
    let condition : Option tree.Expr = option_map (λ e. expr_view e.now) c.args.condition in
    let test : Test = condition_evaluated setting names condition in
    let turns : Step = inside (stmt_run setting names (length names) (stmt_view c.args.body.now)) in
    let steps : Step = inside (stmt_run setting names (length names) (stmt_view c.args.step.now)) in
    let body : Step = λ turn. result_and_then (turns turn) steps in
    let whole = for_looped setting names condition (stmt_view c.args.step.now)
    (stmt_view c.args.body.now) (suc turn_limit) (progress_of c.args.progress.now) in
    let round = c.loop-round._round in
    let left = c.loop-round.invariant.left in
    let m = progress_of c.loop-round.progress in
    let e = c.in_err-eval_condition.field-0.0 in
    let met : IsRefusal (test m) e = subst
    (λ n. IsRefusal (condition_evaluated setting n condition m) e)
    c.loop-round.invariant.names c.in_err-eval_condition.ensures.tests in
    let reported : Runs whole (Err e) (progress_of c.eval_condition.new.progress) =
    test_refused test body round m whole e c.loop-round-test.true left met in
    search rules

pub for_turns-returns-then-not-is_true-clause-runs :
    goal.for_turns-returns-then-not-is_true-clause-runs
for_turns-returns-then-not-is_true-clause-runs g t c =
    let setting = setting_of c.args.self.now.task in
    let names = c.args.progress.now.store.variables.names in
    let condition : Option tree.Expr = option_map (λ e. expr_view e.now) c.args.condition in
    let test : Test = condition_evaluated setting names condition in
    let turns : Step = inside (stmt_run setting names (length names) (stmt_view c.args.body.now)) in
    let steps : Step = inside (stmt_run setting names (length names) (stmt_view c.args.step.now)) in
    let body : Step = λ turn. result_and_then (turns turn) steps in
    let whole = for_looped setting names condition (stmt_view c.args.step.now)
    (stmt_view c.args.body.now) (suc turn_limit) (progress_of c.args.progress.now) in
    let round = c.loop-round._round in
    let left = c.loop-round.invariant.left in
    let m = progress_of c.loop-round.progress in
    let tested = progress_of c.eval_condition.new.progress in
    let value = c.in_ok-eval_condition.field-0 in
    let met : test m ≡ Ok (value, tested) =
    subst (λ n. condition_evaluated setting n condition m ≡ Ok (value, tested))
    c.loop-round.invariant.names c.in_ok-eval_condition.ensures.tests in
    let truth : c.is_true.result ≡ is_true value = search rules in
    let ends : is_true value ≡ false = sym truth ∙ c.if-not-is_true.true in
    loop_ends test body round m tested value whole c.loop-round-test.true left met ends

pub for_turns-returns-in_err-turn-clause-runs : goal.for_turns-returns-in_err-turn-clause-runs
for_turns-returns-in_err-turn-clause-runs g t c =
    let setting = setting_of c.args.self.now.task in
    let names = c.args.progress.now.store.variables.names in
    let condition : Option tree.Expr = option_map (λ e. expr_view e.now) c.args.condition in
    let test : Test = condition_evaluated setting names condition in
    let turns : Step = inside (stmt_run setting names (length names) (stmt_view c.args.body.now)) in
    let steps : Step = inside (stmt_run setting names (length names) (stmt_view c.args.step.now)) in
    let body : Step = λ turn. result_and_then (turns turn) steps in
    let whole = for_looped setting names condition (stmt_view c.args.step.now)
    (stmt_view c.args.body.now) (suc turn_limit) (progress_of c.args.progress.now) in
    let round = c.loop-round._round in
    let left = c.loop-round.invariant.left in
    let m = progress_of c.loop-round.progress in
    let tested = progress_of c.eval_condition.new.progress in
    let value = c.in_ok-eval_condition.field-0 in
    let met : test m ≡ Ok (value, tested) =
    subst (λ n. condition_evaluated setting n condition m ≡ Ok (value, tested))
    c.loop-round.invariant.names c.in_ok-eval_condition.ensures.tests in
    let truth : c.is_true.result ≡ is_true value = search rules in
    let holds : is_true value ≡ true = sym truth ∙ c.if-not-is_true.false in
    let e = c.in_err-turn.field-0.0 in
    let over : IsRefusal (computed (firing.turned tested.store)) e = c.in_err-turn.ensures.done in
    let reported : Runs whole (Err e) (record tested { store = store_of c.turn.new.store }) =
    turn_refused test body round m tested value whole e c.loop-round-test.true left met holds
    over in
    search rules

pub for_turns-returns-in_err-inside-clause-runs : goal.for_turns-returns-in_err-inside-clause-runs
for_turns-returns-in_err-inside-clause-runs g t c =
    let setting = setting_of c.args.self.now.task in
    let names = c.args.progress.now.store.variables.names in
    let condition : Option tree.Expr = option_map (λ e. expr_view e.now) c.args.condition in
    let test : Test = condition_evaluated setting names condition in
    let turns : Step = inside (stmt_run setting names (length names) (stmt_view c.args.body.now)) in
    let steps : Step = inside (stmt_run setting names (length names) (stmt_view c.args.step.now)) in
    let body : Step = λ turn. result_and_then (turns turn) steps in
    let whole = for_looped setting names condition (stmt_view c.args.step.now)
    (stmt_view c.args.body.now) (suc turn_limit) (progress_of c.args.progress.now) in
    let round = c.loop-round._round in
    let left = c.loop-round.invariant.left in
    let m = progress_of c.loop-round.progress in
    let tested = progress_of c.eval_condition.new.progress in
    let value = c.in_ok-eval_condition.field-0 in
    let met : test m ≡ Ok (value, tested) =
    subst (λ n. condition_evaluated setting n condition m ≡ Ok (value, tested))
    c.loop-round.invariant.names c.in_ok-eval_condition.ensures.tests in
    let truth : c.is_true.result ≡ is_true value = search rules in
    let holds : is_true value ≡ true = sym truth ∙ c.if-not-is_true.false in
    let store = store_of c.turn.new.store in
    let turning : spec.Progress = record tested { store = store } in
    let turn : computed (firing.turned tested.store) ≡ Ok store = c.in_ok-turn.ensures.done in
    let same : c.turn.new.store.variables.names ≡ names =
    c.turn.ensures.names ∙ c.eval_condition.ensures.names ∙ c.loop-round.invariant.names in
    let e = c.in_err-inside.field-0.0 in
    let no : IsRefusal (turns turning) e =
    subst (λ n. IsRefusal (inside (stmt_run setting n (length n) (stmt_view c.args.body.now))
    turning) e) same c.in_err-inside.ensures.runs in
    let none : IsRefusal (body turning) e = first_refused (turns turning) steps e no in
    let reported : Runs whole (Err e) (progress_of c.inside.new.progress) =
    body_refused test body round m tested value store whole e c.loop-round-test.true left met
    holds turn none in
    search rules

pub for_turns-returns-in_err-inside-2-clause-runs :
    goal.for_turns-returns-in_err-inside-2-clause-runs
for_turns-returns-in_err-inside-2-clause-runs g t c =
    let setting = setting_of c.args.self.now.task in
    let names = c.args.progress.now.store.variables.names in
    let condition : Option tree.Expr = option_map (λ e. expr_view e.now) c.args.condition in
    let test : Test = condition_evaluated setting names condition in
    let turns : Step = inside (stmt_run setting names (length names) (stmt_view c.args.body.now)) in
    let steps : Step = inside (stmt_run setting names (length names) (stmt_view c.args.step.now)) in
    let body : Step = λ turn. result_and_then (turns turn) steps in
    let whole = for_looped setting names condition (stmt_view c.args.step.now)
    (stmt_view c.args.body.now) (suc turn_limit) (progress_of c.args.progress.now) in
    let round = c.loop-round._round in
    let left = c.loop-round.invariant.left in
    let m = progress_of c.loop-round.progress in
    let tested = progress_of c.eval_condition.new.progress in
    let value = c.in_ok-eval_condition.field-0 in
    let met : test m ≡ Ok (value, tested) =
    subst (λ n. condition_evaluated setting n condition m ≡ Ok (value, tested))
    c.loop-round.invariant.names c.in_ok-eval_condition.ensures.tests in
    let truth : c.is_true.result ≡ is_true value = search rules in
    let holds : is_true value ≡ true = sym truth ∙ c.if-not-is_true.false in
    let store = store_of c.turn.new.store in
    let turning : spec.Progress = record tested { store = store } in
    let turn : computed (firing.turned tested.store) ≡ Ok store = c.in_ok-turn.ensures.done in
    let same : c.turn.new.store.variables.names ≡ names =
    c.turn.ensures.names ∙ c.eval_condition.ensures.names ∙ c.loop-round.invariant.names in
    let after = progress_of c.inside.new.progress in
    let ran : turns turning ≡ Ok after = subst
    (λ n. inside (stmt_run setting n (length n) (stmt_view c.args.body.now)) turning
    ≡ Ok after) same c.in_ok-inside.ensures.runs in
    let same' : c.inside.new.progress.store.variables.names ≡ names =
    c.in_ok-inside.ensures.names ∙ same in
    let e = c.in_err-inside-2.field-0.0 in
    let no : IsRefusal (steps after) e = subst
    (λ n. IsRefusal (inside (stmt_run setting n (length n) (stmt_view c.args.step.now)) after)
    e) same' c.in_err-inside-2.ensures.runs in
    let none : IsRefusal (body turning) e = second_refused (turns turning) steps after e ran no in
    let reported : Runs whole (Err e) (progress_of c.inside-in-loop-round.new.progress) =
    body_refused test body round m tested value store whole e c.loop-round-test.true left met
    holds turn none in
    search rules

pub for_turns-loop-round-preserved : goal.for_turns-loop-round-preserved
for_turns-loop-round-preserved g t c =
    let setting = setting_of c.args.self.now.task in
    let names = c.args.progress.now.store.variables.names in
    let condition : Option tree.Expr = option_map (λ e. expr_view e.now) c.args.condition in
    let test : Test = condition_evaluated setting names condition in
    let turns : Step = inside (stmt_run setting names (length names) (stmt_view c.args.body.now)) in
    let steps : Step = inside (stmt_run setting names (length names) (stmt_view c.args.step.now)) in
    let body : Step = λ turn. result_and_then (turns turn) steps in
    let whole = for_looped setting names condition (stmt_view c.args.step.now)
    (stmt_view c.args.body.now) (suc turn_limit) (progress_of c.args.progress.now) in
    let round = c.loop-round._round in
    let left = c.loop-round.invariant.left in
    let m = progress_of c.loop-round.progress in
    let tested = progress_of c.eval_condition.new.progress in
    let value = c.in_ok-eval_condition.field-0 in
    let met : test m ≡ Ok (value, tested) =
    subst (λ n. condition_evaluated setting n condition m ≡ Ok (value, tested))
    c.loop-round.invariant.names c.in_ok-eval_condition.ensures.tests in
    let truth : c.is_true.result ≡ is_true value = search rules in
    let holds : is_true value ≡ true = sym truth ∙ c.if-not-is_true.false in
    let store = store_of c.turn.new.store in
    let turning : spec.Progress = record tested { store = store } in
    let turn : computed (firing.turned tested.store) ≡ Ok store = c.in_ok-turn.ensures.done in
    let same : c.turn.new.store.variables.names ≡ names =
    c.turn.ensures.names ∙ c.eval_condition.ensures.names ∙ c.loop-round.invariant.names in
    let after = progress_of c.inside.new.progress in
    let ran : turns turning ≡ Ok after = subst
    (λ n. inside (stmt_run setting n (length n) (stmt_view c.args.body.now)) turning
    ≡ Ok after) same c.in_ok-inside.ensures.runs in
    let same' : c.inside.new.progress.store.variables.names ≡ names =
    c.in_ok-inside.ensures.names ∙ same in
    let next = progress_of c.inside-in-loop-round.new.progress in
    let stepped : steps after ≡ Ok next =
    subst (λ n. inside (stmt_run setting n (length n) (stmt_view c.args.step.now)) after
    ≡ Ok next) same' c.in_ok-inside-2.ensures.runs in
    let both : body turning ≡ Ok next = both_done (turns turning) steps after next ran stepped in
    let tracing = tracing_of c.args.self.now.task in
    let trace = c.loop-round.progress.trace in
    let trace' = c.inside.new.progress.trace in
    let trace'' = c.inside-in-loop-round.new.progress.trace in
    let s = c.args.body.now in
    let s' = c.args.step.now in
    let traced : Turn = turn_trace tracing names s' s in
    let own = stmt_trace tracing names (length names) s turning trace in
    let whole_trace = for_turns_trace tracing names condition s' s (suc turn_limit)
    (progress_of c.args.progress.now) c.args.progress.now.trace in
    let moved : trace' ≡ own =
    moved_among (λ n t. stmt_trace tracing n (length n) s turning t) names
    c.turn.new.store.variables.names trace c.eval_condition.new.progress.trace trace' same
    c.eval_condition.ensures.trace c.in_ok-inside.ensures.trace in
    let moved' : trace'' ≡ stmt_trace tracing names (length names) s' after trace' =
    subst (λ n. trace'' ≡ stmt_trace tracing n (length n) s' after trace') same'
    c.in_ok-inside-2.ensures.trace in
    record {
      names = c.in_ok-inside-2.ensures.names ∙ same';
      left = loop_goes_on test body round m tested next value store whole c.loop-round-test.true
          left met holds turn both;
      trace = trace_goes_on test body traced round m tested next value store trace trace''
          whole_trace c.loop-round-test.true c.loop-round.invariant.trace met holds turn both
          (both_traced (turns turning) own (stmt_trace tracing names (length names) s') after trace'
          trace'' ran moved moved');
    }

pub for_turns-returns-clause-runs : goal.for_turns-returns-clause-runs
for_turns-returns-clause-runs g t c =
    let setting = setting_of c.args.self.now.task in
    let names = c.args.progress.now.store.variables.names in
    let condition : Option tree.Expr = option_map (λ e. expr_view e.now) c.args.condition in
    let test : Test = condition_evaluated setting names condition in
    let turns : Step = inside (stmt_run setting names (length names) (stmt_view c.args.body.now)) in
    let steps : Step = inside (stmt_run setting names (length names) (stmt_view c.args.step.now)) in
    let body : Step = λ turn. result_and_then (turns turn) steps in
    let whole = for_looped setting names condition (stmt_view c.args.step.now)
    (stmt_view c.args.body.now) (suc turn_limit) (progress_of c.args.progress.now) in
    let round = c.loop-round._round in
    let left = c.loop-round.invariant.left in
    let m = progress_of c.loop-round.progress in
    subst (λ e. IsRefusal whole e) (sym c.fault.ensures)
    (loop_over test body round m whole (omega (arith, c.loop-round-test.false))
    (omega (arith, c.loop-round.auto._round-end)) left)

-- ---- places

pub for_loop-returns-in_err-statement-clause-trace :
    goal.for_loop-returns-in_err-statement-clause-trace
for_loop-returns-in_err-statement-clause-trace g t c =
    let setting = setting_of c.args.self.now.task in
    let tracing = tracing_of c.args.self.now.task in
    let names = c.args.progress.now.store.variables.names in
    let p = progress_of c.args.progress.now in
    let trace = c.args.progress.now.trace in
    let first = c.args.first.now in
    let step = c.args.step.now in
    let body = c.args.body.now in
    let condition = option_map (λ e. expr_view e.now) c.args.condition in
    let own = stmt_trace tracing names (length names) first p trace in
    let begins = stmt_run setting names (length names) (stmt_view first) p in
    let turns : Turn = for_turns_trace tracing (names_after names (stmt_view first)) condition
    step body (suc turn_limit) in
    let whole = for_trace tracing names first condition step body p trace in
    let e = c.in_err-statement.field-0.0 in
    let after = c.statement.new.progress.trace in
    let refuses : IsRefusal begins e = subst
    (λ n. IsRefusal (stmt_run setting names n (stmt_view first) p) e)
    c.count-start.ensures.names c.in_err-statement.ensures.runs in
    let at : IsPlaceOf e own.here after.here = subst
    (λ n. IsPlaceOf e (stmt_trace tracing names n first p trace).here after.here)
    c.count-start.ensures.names c.in_err-statement.ensures.trace in
    let reported : Traces {X = Unit {0}} (Err e) whole after =
    first_placed begins e own after.here (λ begun. turns begun own) refuses at in
    search rules

pub for_loop-returns-in_err-for_turns-clause-trace :
    goal.for_loop-returns-in_err-for_turns-clause-trace
for_loop-returns-in_err-for_turns-clause-trace g t c =
    let setting = setting_of c.args.self.now.task in
    let tracing = tracing_of c.args.self.now.task in
    let names = c.args.progress.now.store.variables.names in
    let p = progress_of c.args.progress.now in
    let trace = c.args.progress.now.trace in
    let first = c.args.first.now in
    let step = c.args.step.now in
    let body = c.args.body.now in
    let condition = option_map (λ e. expr_view e.now) c.args.condition in
    let own = stmt_trace tracing names (length names) first p trace in
    let begins = stmt_run setting names (length names) (stmt_view first) p in
    let turns : Turn = for_turns_trace tracing (names_after names (stmt_view first)) condition
    step body (suc turn_limit) in
    let whole = for_trace tracing names first condition step body p trace in
    let begun = progress_of c.statement.new.progress in
    let trace' = c.statement.new.progress.trace in
    let after = c.for_turns.new.progress.trace in
    let ran : begins ≡ Ok begun = subst
    (λ n. stmt_run setting names n (stmt_view first) p ≡ Ok begun)
    c.count-start.ensures.names c.in_ok-statement.ensures.runs in
    let moved : trace' ≡ own = subst (λ n. trace' ≡ stmt_trace tracing names n first p trace)
    c.count-start.ensures.names c.in_ok-statement.ensures.trace in
    let e = c.in_err-for_turns.field-0.0 in
    let at : IsPlaceOf e (turns begun own).here after.here = placed_among e
    (λ n t. for_turns_trace tracing n condition step body (suc turn_limit) begun t)
    (names_after names (stmt_view first)) c.statement.new.progress.store.variables.names own trace'
    after.here c.in_ok-statement.ensures.names moved c.in_err-for_turns.ensures.trace in
    let reported : Traces {X = Unit {0}} (Err e) whole after =
    second_placed begins e own after.here (λ begun. turns begun own) begun ran at in
    search rules

pub for_loop-returns-clause-trace : goal.for_loop-returns-clause-trace
for_loop-returns-clause-trace g t c =
    let setting = setting_of c.args.self.now.task in
    let tracing = tracing_of c.args.self.now.task in
    let names = c.args.progress.now.store.variables.names in
    let p = progress_of c.args.progress.now in
    let trace = c.args.progress.now.trace in
    let first = c.args.first.now in
    let step = c.args.step.now in
    let body = c.args.body.now in
    let condition = option_map (λ e. expr_view e.now) c.args.condition in
    let own = stmt_trace tracing names (length names) first p trace in
    let begins = stmt_run setting names (length names) (stmt_view first) p in
    let turns : Turn = for_turns_trace tracing (names_after names (stmt_view first)) condition
    step body (suc turn_limit) in
    let whole = for_trace tracing names first condition step body p trace in
    let begun = progress_of c.statement.new.progress in
    let trace' = c.statement.new.progress.trace in
    let after = c.for_turns.new.progress.trace in
    let ran : begins ≡ Ok begun = subst
    (λ n. stmt_run setting names n (stmt_view first) p ≡ Ok begun)
    c.count-start.ensures.names c.in_ok-statement.ensures.runs in
    let moved : trace' ≡ own = subst (λ n. trace' ≡ stmt_trace tracing names n first p trace)
    c.count-start.ensures.names c.in_ok-statement.ensures.trace in
    let turned : after ≡ turns begun trace' = subst
    (λ n. after ≡ for_turns_trace tracing n condition step body (suc turn_limit) begun trace')
    c.in_ok-statement.ensures.names c.in_ok-for_turns.ensures.trace in
    both_traced begins own turns begun trace' after ran moved turned

pub for_turns-returns-in_err-eval_condition-clause-trace :
    goal.for_turns-returns-in_err-eval_condition-clause-trace
for_turns-returns-in_err-eval_condition-clause-trace g t c =
    let setting = setting_of c.args.self.now.task in
    let tracing = tracing_of c.args.self.now.task in
    let names = c.args.progress.now.store.variables.names in
    let p = progress_of c.args.progress.now in
    let condition : Option tree.Expr = option_map (λ e. expr_view e.now) c.args.condition in
    let test : Test = condition_evaluated setting names condition in
    let s = c.args.body.now in
    let s' = c.args.step.now in
    let turns : Step = inside (stmt_run setting names (length names) (stmt_view s)) in
    let steps : Step = inside (stmt_run setting names (length names) (stmt_view s')) in
    let body : Step = λ turn. result_and_then (turns turn) steps in
    let traced : Turn = turn_trace tracing names s' s in
    let whole = for_turns_trace tracing names condition s' s (suc turn_limit) p
    c.args.progress.now.trace in
    let round = c.loop-round._round in
    let left = c.loop-round.invariant.trace in
    let m = progress_of c.loop-round.progress in
    let trace = c.loop-round.progress.trace in
    let e = c.in_err-eval_condition.field-0.0 in
    let after = c.eval_condition.new.progress.trace in
    let refuses : IsRefusal (test m) e = subst
    (λ n. IsRefusal (condition_evaluated setting n condition m) e)
    c.loop-round.invariant.names c.in_err-eval_condition.ensures.tests in
    let reported : Traces {X = Unit {0}} (Err e) whole after =
    test_placed test body traced round m trace whole after.here e c.loop-round-test.true left
    refuses (ap (λ t. t.here) c.eval_condition.ensures.trace) in
    search rules

pub for_turns-returns-then-not-is_true-clause-trace :
    goal.for_turns-returns-then-not-is_true-clause-trace
for_turns-returns-then-not-is_true-clause-trace g t c =
    let setting = setting_of c.args.self.now.task in
    let tracing = tracing_of c.args.self.now.task in
    let names = c.args.progress.now.store.variables.names in
    let p = progress_of c.args.progress.now in
    let condition : Option tree.Expr = option_map (λ e. expr_view e.now) c.args.condition in
    let test : Test = condition_evaluated setting names condition in
    let s = c.args.body.now in
    let s' = c.args.step.now in
    let turns : Step = inside (stmt_run setting names (length names) (stmt_view s)) in
    let steps : Step = inside (stmt_run setting names (length names) (stmt_view s')) in
    let body : Step = λ turn. result_and_then (turns turn) steps in
    let traced : Turn = turn_trace tracing names s' s in
    let whole = for_turns_trace tracing names condition s' s (suc turn_limit) p
    c.args.progress.now.trace in
    let round = c.loop-round._round in
    let left = c.loop-round.invariant.trace in
    let m = progress_of c.loop-round.progress in
    let trace = c.loop-round.progress.trace in
    let tested = progress_of c.eval_condition.new.progress in
    let value = c.in_ok-eval_condition.field-0 in
    let met : test m ≡ Ok (value, tested) =
    subst (λ n. condition_evaluated setting n condition m ≡ Ok (value, tested))
    c.loop-round.invariant.names c.in_ok-eval_condition.ensures.tests in
    let truth : c.is_true.result ≡ is_true value = search rules in
    let ends : is_true value ≡ false = sym truth ∙ c.if-not-is_true.true in
    c.eval_condition.ensures.trace
    ∙ sym (trace_ends test body traced round m tested value trace whole c.loop-round-test.true left
    met ends)

pub for_turns-returns-in_err-turn-clause-trace : goal.for_turns-returns-in_err-turn-clause-trace
for_turns-returns-in_err-turn-clause-trace g t c =
    let setting = setting_of c.args.self.now.task in
    let tracing = tracing_of c.args.self.now.task in
    let names = c.args.progress.now.store.variables.names in
    let p = progress_of c.args.progress.now in
    let condition : Option tree.Expr = option_map (λ e. expr_view e.now) c.args.condition in
    let test : Test = condition_evaluated setting names condition in
    let s = c.args.body.now in
    let s' = c.args.step.now in
    let turns : Step = inside (stmt_run setting names (length names) (stmt_view s)) in
    let steps : Step = inside (stmt_run setting names (length names) (stmt_view s')) in
    let body : Step = λ turn. result_and_then (turns turn) steps in
    let traced : Turn = turn_trace tracing names s' s in
    let whole = for_turns_trace tracing names condition s' s (suc turn_limit) p
    c.args.progress.now.trace in
    let round = c.loop-round._round in
    let left = c.loop-round.invariant.trace in
    let m = progress_of c.loop-round.progress in
    let trace = c.loop-round.progress.trace in
    let tested = progress_of c.eval_condition.new.progress in
    let value = c.in_ok-eval_condition.field-0 in
    let met : test m ≡ Ok (value, tested) =
    subst (λ n. condition_evaluated setting n condition m ≡ Ok (value, tested))
    c.loop-round.invariant.names c.in_ok-eval_condition.ensures.tests in
    let truth : c.is_true.result ≡ is_true value = search rules in
    let holds : is_true value ≡ true = sym truth ∙ c.if-not-is_true.false in
    let e = c.in_err-turn.field-0.0 in
    let after = c.eval_condition.new.progress.trace in
    let reported : Traces {X = Unit {0}} (Err e) whole after =
    turn_placed test body traced round m tested value trace whole after.here e
    c.loop-round-test.true left met holds c.in_err-turn.ensures.done
    (ap (λ t. t.here) c.eval_condition.ensures.trace) in
    search rules

pub for_turns-returns-in_err-inside-clause-trace : goal.for_turns-returns-in_err-inside-clause-trace
for_turns-returns-in_err-inside-clause-trace g t c =
    let setting = setting_of c.args.self.now.task in
    let tracing = tracing_of c.args.self.now.task in
    let names = c.args.progress.now.store.variables.names in
    let p = progress_of c.args.progress.now in
    let condition : Option tree.Expr = option_map (λ e. expr_view e.now) c.args.condition in
    let test : Test = condition_evaluated setting names condition in
    let s = c.args.body.now in
    let s' = c.args.step.now in
    let turns : Step = inside (stmt_run setting names (length names) (stmt_view s)) in
    let steps : Step = inside (stmt_run setting names (length names) (stmt_view s')) in
    let body : Step = λ turn. result_and_then (turns turn) steps in
    let traced : Turn = turn_trace tracing names s' s in
    let whole = for_turns_trace tracing names condition s' s (suc turn_limit) p
    c.args.progress.now.trace in
    let round = c.loop-round._round in
    let left = c.loop-round.invariant.trace in
    let m = progress_of c.loop-round.progress in
    let trace = c.loop-round.progress.trace in
    let tested = progress_of c.eval_condition.new.progress in
    let value = c.in_ok-eval_condition.field-0 in
    let met : test m ≡ Ok (value, tested) =
    subst (λ n. condition_evaluated setting n condition m ≡ Ok (value, tested))
    c.loop-round.invariant.names c.in_ok-eval_condition.ensures.tests in
    let truth : c.is_true.result ≡ is_true value = search rules in
    let holds : is_true value ≡ true = sym truth ∙ c.if-not-is_true.false in
    let store = store_of c.turn.new.store in
    let turning : spec.Progress = record tested { store = store } in
    let turn : computed (firing.turned tested.store) ≡ Ok store = c.in_ok-turn.ensures.done in
    let same : c.turn.new.store.variables.names ≡ names =
    c.turn.ensures.names ∙ c.eval_condition.ensures.names ∙ c.loop-round.invariant.names in
    let e = c.in_err-inside.field-0.0 in
    let after = c.inside.new.progress.trace in
    let own = stmt_trace tracing names (length names) s turning trace in
    let refuses : IsRefusal (turns turning) e =
    subst (λ n. IsRefusal (inside (stmt_run setting n (length n) (stmt_view s)) turning) e) same
    c.in_err-inside.ensures.runs in
    let at : IsPlaceOf e own.here after.here =
    placed_among e (λ n t. stmt_trace tracing n (length n) s turning t) names
    c.turn.new.store.variables.names trace c.eval_condition.new.progress.trace after.here same
    c.eval_condition.ensures.trace c.in_err-inside.ensures.trace in
    let next : Turn = stmt_trace tracing names (length names) s' in
    let reported : Traces {X = Unit {0}} (Err e) whole after =
    body_placed test body traced round m tested value store trace whole after.here e
    c.loop-round-test.true left met holds turn (first_refused (turns turning) steps e refuses)
    (first_placed (turns turning) e own after.here (λ turned. next turned own) refuses at) in
    search rules

pub for_turns-returns-in_err-inside-2-clause-trace :
    goal.for_turns-returns-in_err-inside-2-clause-trace
for_turns-returns-in_err-inside-2-clause-trace g t c =
    let setting = setting_of c.args.self.now.task in
    let tracing = tracing_of c.args.self.now.task in
    let names = c.args.progress.now.store.variables.names in
    let p = progress_of c.args.progress.now in
    let condition : Option tree.Expr = option_map (λ e. expr_view e.now) c.args.condition in
    let test : Test = condition_evaluated setting names condition in
    let s = c.args.body.now in
    let s' = c.args.step.now in
    let turns : Step = inside (stmt_run setting names (length names) (stmt_view s)) in
    let steps : Step = inside (stmt_run setting names (length names) (stmt_view s')) in
    let body : Step = λ turn. result_and_then (turns turn) steps in
    let traced : Turn = turn_trace tracing names s' s in
    let whole = for_turns_trace tracing names condition s' s (suc turn_limit) p
    c.args.progress.now.trace in
    let round = c.loop-round._round in
    let left = c.loop-round.invariant.trace in
    let m = progress_of c.loop-round.progress in
    let trace = c.loop-round.progress.trace in
    let tested = progress_of c.eval_condition.new.progress in
    let value = c.in_ok-eval_condition.field-0 in
    let met : test m ≡ Ok (value, tested) =
    subst (λ n. condition_evaluated setting n condition m ≡ Ok (value, tested))
    c.loop-round.invariant.names c.in_ok-eval_condition.ensures.tests in
    let truth : c.is_true.result ≡ is_true value = search rules in
    let holds : is_true value ≡ true = sym truth ∙ c.if-not-is_true.false in
    let store = store_of c.turn.new.store in
    let turning : spec.Progress = record tested { store = store } in
    let turn : computed (firing.turned tested.store) ≡ Ok store = c.in_ok-turn.ensures.done in
    let same : c.turn.new.store.variables.names ≡ names =
    c.turn.ensures.names ∙ c.eval_condition.ensures.names ∙ c.loop-round.invariant.names in
    let next : Turn = stmt_trace tracing names (length names) s' in
    let trace' = c.inside.new.progress.trace in
    let own = stmt_trace tracing names (length names) s turning trace in
    let between = progress_of c.inside.new.progress in
    let ran : turns turning ≡ Ok between = subst
    (λ n. inside (stmt_run setting n (length n) (stmt_view s)) turning ≡ Ok between) same
    c.in_ok-inside.ensures.runs in
    let same' : c.inside.new.progress.store.variables.names ≡ names =
    c.in_ok-inside.ensures.names ∙ same in
    let moved : trace' ≡ own =
    moved_among (λ n t. stmt_trace tracing n (length n) s turning t) names
    c.turn.new.store.variables.names trace c.eval_condition.new.progress.trace trace' same
    c.eval_condition.ensures.trace c.in_ok-inside.ensures.trace in
    let e = c.in_err-inside-2.field-0.0 in
    let after = c.inside-in-loop-round.new.progress.trace in
    let refuses : IsRefusal (steps between) e = subst
    (λ n. IsRefusal (inside (stmt_run setting n (length n) (stmt_view s')) between) e) same'
    c.in_err-inside-2.ensures.runs in
    let at : IsPlaceOf e (next between own).here after.here =
    placed_among e (λ n t. stmt_trace tracing n (length n) s' between t) names
    c.inside.new.progress.store.variables.names own trace' after.here same' moved
    c.in_err-inside-2.ensures.trace in
    let reported : Traces {X = Unit {0}} (Err e) whole after =
    body_placed test body traced round m tested value store trace whole after.here e
    c.loop-round-test.true left met holds turn
    (second_refused (turns turning) steps between e ran refuses)
    (second_placed (turns turning) e own after.here (λ turned. next turned own) between ran at) in
    search rules

pub for_turns-returns-clause-trace : goal.for_turns-returns-clause-trace
for_turns-returns-clause-trace g t c =
    let setting = setting_of c.args.self.now.task in
    let tracing = tracing_of c.args.self.now.task in
    let names = c.args.progress.now.store.variables.names in
    let p = progress_of c.args.progress.now in
    let condition : Option tree.Expr = option_map (λ e. expr_view e.now) c.args.condition in
    let test : Test = condition_evaluated setting names condition in
    let s = c.args.body.now in
    let s' = c.args.step.now in
    let turns : Step = inside (stmt_run setting names (length names) (stmt_view s)) in
    let steps : Step = inside (stmt_run setting names (length names) (stmt_view s')) in
    let body : Step = λ turn. result_and_then (turns turn) steps in
    let traced : Turn = turn_trace tracing names s' s in
    let whole = for_turns_trace tracing names condition s' s (suc turn_limit) p
    c.args.progress.now.trace in
    let round = c.loop-round._round in
    let left = c.loop-round.invariant.trace in
    let m = progress_of c.loop-round.progress in
    let trace = c.loop-round.progress.trace in
    placed_at c.fault.result whole.here trace.here
    (ap (λ t. t.here) (sym (trace_over test body traced round m trace whole
    (omega (arith, c.loop-round-test.false)) (omega (arith, c.loop-round.auto._round-end)) left)))
