-- Statements, by their kind.
use Rattle.std.proofs.Common.{rules, ◌≡◌, suc, true, false, length, Some, Ok, Err}
use Rattle.std.proofs.Common.{sym, ap, ◌∙◌, subst}
use Rattle.std.specs.Option.{option_map}
use Rattle.strc_parse_tree.specs.Tree as tree
use Rattle.strc_parse_tree.specs.View.{expr_view, stmt_view, block_view}
use Rattle.strc_parse_tree.specs.declared.tree.Stmt.{Stmt}
use Rattle.strc_work_meaning.specs.Arithmetic.{is_true}
use Rattle.strc_work_meaning.specs.Firing.{turn_limit}
use Rattle.strc_elab.specs.Elaboration.{condition_evaluated, inside, stmt_run}
use Rattle.strc_elab.specs.Answering.{Runs, progress_of, Traces}
use Rattle.strc_elab.specs.Elaboration.{Progress}
use Rattle.strc_elab.specs.Places.{stmt_trace, placed_trace, block_trace, while_trace, for_trace}
use Rattle.strc_elab.specs.declared.trace.Trace.{Trace}
use Rattle.strc_elab.specs.Tasks.{setting_of, tracing_of}
use Rattle.strc_elab.proofs.Bodies.{block_is}
use Rattle.strc_elab.proofs.Bodies.{chosen_runs}
use Rattle.strc_elab.proofs.Bodies.{seen_condition}
use Rattle.strc_elab.proofs.BodyPlaces.{stmt_trace-Block, chosen_trace}
use Rattle.strc_elab.proofs.LoopRuns.{Step}
use Rattle.strc_elab.proofs.Places.{first_placed}
use Rattle.strc_elab.proofs.Places.{place_after_done}
use Rattle.strc_elab.proofs.Places.{traces_same, traces_among}
use Rattle.strc_elab.proofs.body.Body.+body.Goals as goal

pub statement-returns-in-Placed-clause-runs : goal.statement-returns-in-Placed-clause-runs
statement-returns-in-Placed-clause-runs g t c =
    let setting = setting_of c.args.self.now.task in
    let names = c.args.progress.now.store.variables.names in
    let p = progress_of c.args.progress.now in
    let is : stmt_view c.args.statement.now ≡ stmt_view c.deref-in-Placed.result.now =
    ap stmt_view c.in-Placed.is ∙ ap stmt_view (sym c.deref-in-Placed.ensures) in
    subst (λ s. Runs (stmt_run setting names c.args.start s p) c.statement_at.result
    (progress_of c.statement_at.new.progress)) (sym is) c.statement_at.ensures.runs

pub statement-returns-in-Block-clause-runs : goal.statement-returns-in-Block-clause-runs
statement-returns-in-Block-clause-runs g t c =
    let setting = setting_of c.args.self.now.task in
    let names = c.args.progress.now.store.variables.names in
    let p = progress_of c.args.progress.now in
    let after = progress_of c.block.new.progress in
    let is : stmt_view c.args.statement.now ≡ tree.Block (block_view c.deref.result.now) =
    block_is c.args.statement.now c.in-Block.body c.deref.result.now c.in-Block.is
    c.deref.ensures.value in
    subst (λ s. Runs (stmt_run setting names c.args.start s p) c.block.result after)
    (sym is) c.block.ensures.runs

pub statement-returns-then-is_true-clause-runs : goal.statement-returns-then-is_true-clause-runs
statement-returns-then-is_true-clause-runs g t c =
    let setting = setting_of c.args.self.now.task in
    let names = c.args.progress.now.store.variables.names in
    let p = progress_of c.args.progress.now in
    let condition = expr_view c.in-If.condition in
    let within : tree.Stmt → Step = λ s. inside (stmt_run setting names (length names) s) in
    let chosen : Step = within (stmt_view c.in-If.chosen.value) in
    let other : Step = λ tested. Ok tested in
    let is : stmt_view c.args.statement.now ≡ tree.If condition (stmt_view c.in-If.chosen.value) =
    ap stmt_view c.in-If.is in
    let tested = progress_of c.eval_condition.new.progress in
    let value = c.in_ok-eval_condition-in-If.field-0 in
    let truth : c.is_true.result ≡ is_true value = search rules in
    let whole : stmt_run setting names c.args.start (stmt_view c.args.statement.now) p
    ≡ chosen tested = ap (λ s. stmt_run setting names c.args.start s p) is
    ∙ chosen_runs (condition_evaluated setting names (Some condition) p) chosen other value
    tested true c.in_ok-eval_condition-in-If.ensures.tests (sym truth ∙ c.if-is_true.true) in
    let after = progress_of c.inside.new.progress in
    let ran : Runs (within (stmt_view c.deref-then-is_true.result.now) tested) c.inside.result after
    = subst (λ n. Runs (inside (stmt_run setting n (length n)
    (stmt_view c.deref-then-is_true.result.now)) tested) c.inside.result after)
    c.eval_condition.ensures.names c.inside.ensures.runs in
    let here : Runs (chosen tested) c.inside.result after =
    subst (λ s. Runs (within (stmt_view s) tested) c.inside.result after)
    c.deref-then-is_true.ensures ran in
    subst (λ r. Runs r c.inside.result after) (sym whole) here

pub statement-returns-then-is_true-2-clause-runs : goal.statement-returns-then-is_true-2-clause-runs
statement-returns-then-is_true-2-clause-runs g t c =
    let setting = setting_of c.args.self.now.task in
    let names = c.args.progress.now.store.variables.names in
    let p = progress_of c.args.progress.now in
    let condition = expr_view c.in-IfElse.condition in
    let within : tree.Stmt → Step = λ s. inside (stmt_run setting names (length names) s) in
    let chosen : Step = within (stmt_view c.in-IfElse.chosen.value) in
    let other : Step = within (stmt_view c.in-IfElse.other.value) in
    let is : stmt_view c.args.statement.now
    ≡ tree.IfElse condition (stmt_view c.in-IfElse.chosen.value)
    (stmt_view c.in-IfElse.other.value) = ap stmt_view c.in-IfElse.is in
    let tested = progress_of c.eval_condition-in-IfElse.new.progress in
    let value = c.in_ok-eval_condition-in-IfElse.field-0 in
    let truth : c.is_true-in-IfElse.result ≡ is_true value = search rules in
    let whole : stmt_run setting names c.args.start (stmt_view c.args.statement.now) p
    ≡ chosen tested = ap (λ s. stmt_run setting names c.args.start s p) is
    ∙ chosen_runs (condition_evaluated setting names (Some condition) p) chosen other value
    tested true c.in_ok-eval_condition-in-IfElse.ensures.tests
    (sym truth ∙ c.if-is_true-2.true) in
    let after = progress_of c.inside-then-is_true-2.new.progress in
    let ran : Runs (within (stmt_view c.deref-then-is_true-2.result.now) tested)
    c.inside-then-is_true-2.result after =
    subst (λ n. Runs (inside (stmt_run setting n (length n)
    (stmt_view c.deref-then-is_true-2.result.now)) tested) c.inside-then-is_true-2.result
    after) c.eval_condition-in-IfElse.ensures.names c.inside-then-is_true-2.ensures.runs in
    let here : Runs (chosen tested) c.inside-then-is_true-2.result after =
    subst (λ s. Runs (within (stmt_view s) tested) c.inside-then-is_true-2.result after)
    c.deref-then-is_true-2.ensures ran in
    subst (λ r. Runs r c.inside-then-is_true-2.result after) (sym whole) here

pub statement-returns-else-is_true-2-clause-runs : goal.statement-returns-else-is_true-2-clause-runs
statement-returns-else-is_true-2-clause-runs g t c =
    let setting = setting_of c.args.self.now.task in
    let names = c.args.progress.now.store.variables.names in
    let p = progress_of c.args.progress.now in
    let condition = expr_view c.in-IfElse.condition in
    let within : tree.Stmt → Step = λ s. inside (stmt_run setting names (length names) s) in
    let chosen : Step = within (stmt_view c.in-IfElse.chosen.value) in
    let other : Step = within (stmt_view c.in-IfElse.other.value) in
    let is : stmt_view c.args.statement.now
    ≡ tree.IfElse condition (stmt_view c.in-IfElse.chosen.value)
    (stmt_view c.in-IfElse.other.value) = ap stmt_view c.in-IfElse.is in
    let tested = progress_of c.eval_condition-in-IfElse.new.progress in
    let value = c.in_ok-eval_condition-in-IfElse.field-0 in
    let truth : c.is_true-in-IfElse.result ≡ is_true value = search rules in
    let whole : stmt_run setting names c.args.start (stmt_view c.args.statement.now) p
    ≡ other tested = ap (λ s. stmt_run setting names c.args.start s p) is
    ∙ chosen_runs (condition_evaluated setting names (Some condition) p) chosen other value
    tested false c.in_ok-eval_condition-in-IfElse.ensures.tests
    (sym truth ∙ c.if-is_true-2.false) in
    let after = progress_of c.inside-else-is_true-2.new.progress in
    let ran : Runs (within (stmt_view c.deref-else-is_true-2.result.now) tested)
    c.inside-else-is_true-2.result after =
    subst (λ n. Runs (inside (stmt_run setting n (length n)
    (stmt_view c.deref-else-is_true-2.result.now)) tested) c.inside-else-is_true-2.result
    after) c.eval_condition-in-IfElse.ensures.names c.inside-else-is_true-2.ensures.runs in
    let here : Runs (other tested) c.inside-else-is_true-2.result after =
    subst (λ s. Runs (within (stmt_view s) tested) c.inside-else-is_true-2.result after)
    c.deref-else-is_true-2.ensures ran in
    subst (λ r. Runs r c.inside-else-is_true-2.result after) (sym whole) here

pub statement-returns-in-While-clause-runs : goal.statement-returns-in-While-clause-runs
statement-returns-in-While-clause-runs g t c =
    let setting = setting_of c.args.self.now.task in
    let names = c.args.progress.now.store.variables.names in
    let p = progress_of c.args.progress.now in
    let after = progress_of c.while_turns.new.progress in
    let is : stmt_view c.args.statement.now
    ≡ tree.While (expr_view c.in-While.condition) (stmt_view c.deref-in-While.result.now) =
    ap stmt_view c.in-While.is ∙ ap
    (λ s. tree.While (expr_view c.in-While.condition) (stmt_view s))
    (sym c.deref-in-While.ensures) in
    subst (λ s. Runs (stmt_run setting names c.args.start s p) c.while_turns.result after)
    (sym is) c.while_turns.ensures.runs

pub statement-returns-in-For-clause-runs : goal.statement-returns-in-For-clause-runs
statement-returns-in-For-clause-runs g t c =
    let setting = setting_of c.args.self.now.task in
    let names = c.args.progress.now.store.variables.names in
    let p = progress_of c.args.progress.now in
    let first = stmt_view c.deref-in-For.result.now in
    let step = stmt_view c.deref-in-For-2.result.now in
    let body = stmt_view c.deref-in-For-3.result.now in
    let condition = option_map expr_view c.in-For.condition in
    let captures = option_map (λ e. expr_view e.now) c.as_ref.result in
    let is : stmt_view c.args.statement.now ≡ tree.For first captures step body =
    ap stmt_view c.in-For.is
    ∙ ap (λ s. tree.For (stmt_view s) condition (stmt_view c.in-For.step.value)
    (stmt_view c.in-For.body.value)) (sym c.deref-in-For.ensures)
    ∙ ap (λ s. tree.For first condition (stmt_view s) (stmt_view c.in-For.body.value))
    (sym c.deref-in-For-2.ensures)
    ∙ ap (λ s. tree.For first condition step (stmt_view s)) (sym c.deref-in-For-3.ensures)
    ∙ ap (λ o. tree.For first o step body)
    (sym (seen_condition c.as_ref.result c.in-For.condition c.as_ref.ensures.value))
    in
    subst (λ s. Runs (stmt_run setting names c.args.start s p) c.for_loop.result
    (progress_of c.for_loop.new.progress)) (sym is) c.for_loop.ensures.runs

pub statement_at-returns-in_err-statement-clause-trace :
    goal.statement_at-returns-in_err-statement-clause-trace
statement_at-returns-in_err-statement-clause-trace g t c =
    let setting = setting_of c.args.self.now.task in
    let tracing = tracing_of c.args.self.now.task in
    let names = c.args.progress.now.store.variables.names in
    let p = progress_of c.args.progress.now in
    let trace = c.args.progress.now.trace in
    let start = c.args.start in
    let s = c.args.statement.now in
    let runs = stmt_run setting names start (stmt_view s) p in
    let own = stmt_trace tracing names start s p (record trace { here = Some c.args.place }) in
    let e = c.in_err-statement.field-0.0 in
    let after = c.statement.new.progress.trace in
    let reported : Traces {X = Unit {0}} (Err e)
    (placed_trace tracing names start c.args.place s p trace) after =
    first_placed runs e own after.here (λ done. record own { here = trace.here })
    c.in_err-statement.ensures.runs c.in_err-statement.ensures.trace in
    search rules

pub statement_at-returns-clause-trace : goal.statement_at-returns-clause-trace
statement_at-returns-clause-trace g t c =
    let setting = setting_of c.args.self.now.task in
    let tracing = tracing_of c.args.self.now.task in
    let names = c.args.progress.now.store.variables.names in
    let p = progress_of c.args.progress.now in
    let trace = c.args.progress.now.trace in
    let start = c.args.start in
    let s = c.args.statement.now in
    let runs = stmt_run setting names start (stmt_view s) p in
    let own = stmt_trace tracing names start s p (record trace { here = Some c.args.place }) in
    ap (λ (t : Trace). record t { here = trace.here }) c.in_ok-statement.ensures.trace
    ∙ sym (place_after_done runs own (λ done. record own { here = trace.here })
    (progress_of c.statement.new.progress) c.in_ok-statement.ensures.runs)

pub statement-returns-in-Placed-clause-trace : goal.statement-returns-in-Placed-clause-trace
statement-returns-in-Placed-clause-trace g t c =
    let tracing = tracing_of c.args.self.now.task in
    let names = c.args.progress.now.store.variables.names in
    let p = progress_of c.args.progress.now in
    let trace = c.args.progress.now.trace in
    let start = c.args.start in
    let s = c.deref-in-Placed.result.now in
    let own = placed_trace tracing names start c.in-Placed.place s p trace in
    let is : stmt_trace tracing names start c.args.statement.now p trace ≡ own =
    ap (λ s. stmt_trace tracing names start s p trace) c.in-Placed.is
    ∙ ap (λ s. placed_trace tracing names start c.in-Placed.place s p trace)
    (sym c.deref-in-Placed.ensures) in
    traces_same c.statement_at.result own
    (stmt_trace tracing names start c.args.statement.now p trace)
    c.statement_at.new.progress.trace is c.statement_at.ensures.trace

pub statement-returns-in-Block-clause-trace : goal.statement-returns-in-Block-clause-trace
statement-returns-in-Block-clause-trace g t c =
    let tracing = tracing_of c.args.self.now.task in
    let names = c.args.progress.now.store.variables.names in
    let p = progress_of c.args.progress.now in
    let trace = c.args.progress.now.trace in
    let start = c.args.start in
    let items = c.deref.result.now in
    let is : stmt_trace tracing names start c.args.statement.now p trace
    ≡ block_trace tracing names (length names) items p trace =
    ap (λ s. stmt_trace tracing names start s p trace) c.in-Block.is
    ∙ stmt_trace-Block tracing names start c.in-Block.body p trace
    ∙ ap (λ l. block_trace tracing names (length names) l p trace) (sym c.deref.ensures.value) in
    traces_same c.block.result (block_trace tracing names (length names) items p trace)
    (stmt_trace tracing names start c.args.statement.now p trace) c.block.new.progress.trace is
    c.block.ensures.trace

pub statement-returns-then-is_true-clause-trace : goal.statement-returns-then-is_true-clause-trace
statement-returns-then-is_true-clause-trace g t c =
    let setting = setting_of c.args.self.now.task in
    let tracing = tracing_of c.args.self.now.task in
    let names = c.args.progress.now.store.variables.names in
    let p = progress_of c.args.progress.now in
    let trace = c.args.progress.now.trace in
    let start = c.args.start in
    let condition = expr_view c.in-If.condition in
    let within : Stmt → Progress → Trace = λ s. λ tested.
    stmt_trace tracing names (length names) s tested trace in
    let chosen : Progress → Trace = within c.in-If.chosen.value in
    let other : Progress → Trace = λ tested. trace in
    let tested = progress_of c.eval_condition.new.progress in
    let value = c.in_ok-eval_condition-in-If.field-0 in
    let truth : c.is_true.result ≡ is_true value = search rules in
    let s = c.deref-then-is_true.result.now in
    let after = c.inside.new.progress.trace in
    let is : stmt_trace tracing names start c.args.statement.now p trace ≡ within s tested =
    ap (λ s. stmt_trace tracing names start s p trace) c.in-If.is
    ∙ chosen_trace (condition_evaluated setting names (Some condition) p) trace chosen other value
    tested true c.in_ok-eval_condition-in-If.ensures.tests (sym truth ∙ c.if-is_true.true)
    ∙ ap (λ s. within s tested) (sym c.deref-then-is_true.ensures) in
    let ran : Traces c.inside.result (within s tested) after =
    traces_among c.inside.result (λ n t. stmt_trace tracing n (length n) s tested t) names
    c.eval_condition.new.progress.store.variables.names trace c.eval_condition.new.progress.trace
    after
    c.eval_condition.ensures.names c.eval_condition.ensures.trace c.inside.ensures.trace in
    traces_same c.inside.result (within s tested)
    (stmt_trace tracing names start c.args.statement.now p trace) after is ran

pub statement-returns-else-is_true-clause-trace : goal.statement-returns-else-is_true-clause-trace
statement-returns-else-is_true-clause-trace g t c =
    let setting = setting_of c.args.self.now.task in
    let tracing = tracing_of c.args.self.now.task in
    let names = c.args.progress.now.store.variables.names in
    let p = progress_of c.args.progress.now in
    let trace = c.args.progress.now.trace in
    let start = c.args.start in
    let condition = expr_view c.in-If.condition in
    let within : Stmt → Progress → Trace = λ s. λ tested.
    stmt_trace tracing names (length names) s tested trace in
    let chosen : Progress → Trace = within c.in-If.chosen.value in
    let other : Progress → Trace = λ tested. trace in
    let tested = progress_of c.eval_condition.new.progress in
    let value = c.in_ok-eval_condition-in-If.field-0 in
    let truth : c.is_true.result ≡ is_true value = search rules in
    c.eval_condition.ensures.trace
    ∙ sym (ap (λ s. stmt_trace tracing names start s p trace) c.in-If.is
    ∙ chosen_trace (condition_evaluated setting names (Some condition) p) trace chosen other value
    tested false c.in_ok-eval_condition-in-If.ensures.tests (sym truth ∙ c.if-is_true.false))

pub statement-returns-then-is_true-2-clause-trace :
    goal.statement-returns-then-is_true-2-clause-trace
statement-returns-then-is_true-2-clause-trace g t c =
    let setting = setting_of c.args.self.now.task in
    let tracing = tracing_of c.args.self.now.task in
    let names = c.args.progress.now.store.variables.names in
    let p = progress_of c.args.progress.now in
    let trace = c.args.progress.now.trace in
    let start = c.args.start in
    let condition = expr_view c.in-IfElse.condition in
    let within : Stmt → Progress → Trace = λ s. λ tested.
    stmt_trace tracing names (length names) s tested trace in
    let chosen : Progress → Trace = within c.in-IfElse.chosen.value in
    let other : Progress → Trace = within c.in-IfElse.other.value in
    let tested = progress_of c.eval_condition-in-IfElse.new.progress in
    let value = c.in_ok-eval_condition-in-IfElse.field-0 in
    let truth : c.is_true-in-IfElse.result ≡ is_true value = search rules in
    let s = c.deref-then-is_true-2.result.now in
    let after = c.inside-then-is_true-2.new.progress.trace in
    let is : stmt_trace tracing names start c.args.statement.now p trace ≡ within s tested =
    ap (λ s. stmt_trace tracing names start s p trace) c.in-IfElse.is
    ∙ chosen_trace (condition_evaluated setting names (Some condition) p) trace chosen other value
    tested true c.in_ok-eval_condition-in-IfElse.ensures.tests (sym truth ∙ c.if-is_true-2.true)
    ∙ ap (λ s. within s tested) (sym c.deref-then-is_true-2.ensures) in
    let ran : Traces c.inside-then-is_true-2.result (within s tested) after =
    traces_among c.inside-then-is_true-2.result (λ n t. stmt_trace tracing n (length n) s tested t)
    names
    c.eval_condition-in-IfElse.new.progress.store.variables.names trace
    c.eval_condition-in-IfElse.new.progress.trace after
    c.eval_condition-in-IfElse.ensures.names c.eval_condition-in-IfElse.ensures.trace
    c.inside-then-is_true-2.ensures.trace in
    traces_same c.inside-then-is_true-2.result (within s tested)
    (stmt_trace tracing names start c.args.statement.now p trace) after is ran

pub statement-returns-else-is_true-2-clause-trace :
    goal.statement-returns-else-is_true-2-clause-trace
statement-returns-else-is_true-2-clause-trace g t c =
    let setting = setting_of c.args.self.now.task in
    let tracing = tracing_of c.args.self.now.task in
    let names = c.args.progress.now.store.variables.names in
    let p = progress_of c.args.progress.now in
    let trace = c.args.progress.now.trace in
    let start = c.args.start in
    let condition = expr_view c.in-IfElse.condition in
    let within : Stmt → Progress → Trace = λ s. λ tested.
    stmt_trace tracing names (length names) s tested trace in
    let chosen : Progress → Trace = within c.in-IfElse.chosen.value in
    let other : Progress → Trace = within c.in-IfElse.other.value in
    let tested = progress_of c.eval_condition-in-IfElse.new.progress in
    let value = c.in_ok-eval_condition-in-IfElse.field-0 in
    let truth : c.is_true-in-IfElse.result ≡ is_true value = search rules in
    let s = c.deref-else-is_true-2.result.now in
    let after = c.inside-else-is_true-2.new.progress.trace in
    let is : stmt_trace tracing names start c.args.statement.now p trace ≡ within s tested =
    ap (λ s. stmt_trace tracing names start s p trace) c.in-IfElse.is
    ∙ chosen_trace (condition_evaluated setting names (Some condition) p) trace chosen other value
    tested false c.in_ok-eval_condition-in-IfElse.ensures.tests (sym truth ∙ c.if-is_true-2.false)
    ∙ ap (λ s. within s tested) (sym c.deref-else-is_true-2.ensures) in
    let ran : Traces c.inside-else-is_true-2.result (within s tested) after =
    traces_among c.inside-else-is_true-2.result (λ n t. stmt_trace tracing n (length n) s tested t)
    names
    c.eval_condition-in-IfElse.new.progress.store.variables.names trace
    c.eval_condition-in-IfElse.new.progress.trace after
    c.eval_condition-in-IfElse.ensures.names c.eval_condition-in-IfElse.ensures.trace
    c.inside-else-is_true-2.ensures.trace in
    traces_same c.inside-else-is_true-2.result (within s tested)
    (stmt_trace tracing names start c.args.statement.now p trace) after is ran

pub statement-returns-in-While-clause-trace : goal.statement-returns-in-While-clause-trace
statement-returns-in-While-clause-trace g t c =
    let tracing = tracing_of c.args.self.now.task in
    let names = c.args.progress.now.store.variables.names in
    let p = progress_of c.args.progress.now in
    let trace = c.args.progress.now.trace in
    let start = c.args.start in
    let condition = expr_view c.in-While.condition in
    let body = c.deref-in-While.result.now in
    let turns = while_trace tracing names condition body (suc turn_limit) p trace in
    let is : stmt_trace tracing names start c.args.statement.now p trace ≡ turns =
    ap (λ s. stmt_trace tracing names start s p trace) c.in-While.is
    ∙ ap (λ s. while_trace tracing names condition s (suc turn_limit) p trace)
    (sym c.deref-in-While.ensures) in
    traces_same c.while_turns.result turns
    (stmt_trace tracing names start c.args.statement.now p trace) c.while_turns.new.progress.trace
    is c.while_turns.ensures.trace

pub statement-returns-in-For-clause-trace : goal.statement-returns-in-For-clause-trace
statement-returns-in-For-clause-trace g t c =
    let tracing = tracing_of c.args.self.now.task in
    let names = c.args.progress.now.store.variables.names in
    let p = progress_of c.args.progress.now in
    let trace = c.args.progress.now.trace in
    let start = c.args.start in
    let first = c.deref-in-For.result.now in
    let step = c.deref-in-For-2.result.now in
    let body = c.deref-in-For-3.result.now in
    let condition = option_map expr_view c.in-For.condition in
    let captures = option_map (λ e. expr_view e.now) c.as_ref.result in
    let whole = for_trace tracing names first captures step body p trace in
    let is : stmt_trace tracing names start c.args.statement.now p trace ≡ whole =
    ap (λ s. stmt_trace tracing names start s p trace) c.in-For.is
    ∙ ap (λ s. for_trace tracing names s condition c.in-For.step.value c.in-For.body.value p trace)
    (sym c.deref-in-For.ensures)
    ∙ ap (λ s. for_trace tracing names first condition s c.in-For.body.value p trace)
    (sym c.deref-in-For-2.ensures)
    ∙ ap (λ s. for_trace tracing names first condition step s p trace)
    (sym c.deref-in-For-3.ensures)
    ∙ ap (λ o. for_trace tracing names first o step body p trace)
    (sym (seen_condition c.as_ref.result c.in-For.condition c.as_ref.ensures.value)) in
    traces_same c.for_loop.result whole
    (stmt_trace tracing names start c.args.statement.now p trace) c.for_loop.new.progress.trace
    is c.for_loop.ensures.trace
