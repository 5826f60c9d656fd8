-- Blocks, and what is inside of one.
use Rattle.std.proofs.Common.{rules, ◌≡◌, length, drop, Ok, Err}
use Rattle.std.proofs.Common.{sym, ap, ◌∙◌, subst}
use Rattle.strc_parse_tree.specs.View.{stmt_view, block_view}
use Rattle.strc_elab.specs.Elaboration as spec
use Rattle.strc_elab.specs.Elaboration.{inside, stmt_run, stmts_run}
use Rattle.strc_elab_statements.specs.Answers.{IsRefusal}
use Rattle.strc_elab.specs.Answering.{Runs, progress_of, Traces, IsPlaceOf}
use Rattle.strc_elab.specs.Places.{stmt_trace, block_trace}
use Rattle.strc_elab.specs.Tasks.{setting_of, tracing_of}
use Rattle.strc_elab.proofs.Bodies.{inside_refused, inside_ran, left_is, block_names_left}
use Rattle.strc_elab.proofs.Bodies.{stmts_go_on, names_go_on}
use Rattle.strc_elab.proofs.Bodies.{stmts_refused}
use Rattle.strc_elab.proofs.BodyPlaces.{blocks_go_on, block_placed}
use Rattle.strc_elab_statements.proofs.Refusals.{refused_same}
use Rattle.strc_elab.proofs.Places.{placed_same}
use Rattle.strc_elab.proofs.body.Body.+body.Goals as goal

pub inside-returns-clause-runs : goal.inside-returns-clause-runs
inside-returns-clause-runs g t c =
    let setting = setting_of c.args.self.now.task in
    let names = c.args.progress.now.store.variables.names in
    let p = progress_of c.args.progress.now in
    let start = c.count-start.result in
    let after = progress_of c.statement.new.progress in
    let runs = stmt_run setting names (length names) (stmt_view c.args.statement.now) in
    let ran : runs p ≡ Ok after = subst (λ n. stmt_run setting names n
    (stmt_view c.args.statement.now) p ≡ Ok after) c.count-start.ensures.names
    c.in_ok-statement.ensures.runs in
    inside_ran runs p after ran ∙ ap (λ (r : spec.Progress). Ok r)
    (left_is p after c.leave.new.self.variables start c.count-start.ensures.variables
    (ap (λ b. b.variables) c.leave.ensures))

pub statements-loop-statement-preserved : goal.statements-loop-statement-preserved
statements-loop-statement-preserved g t c =
    let items = c.args.block.now in
    let i = c.loop-statement.statement-index in
    let x = c.statement-item.result in
    let names = c.loop-statement.progress.store.variables.names in
    record {
      left = stmts_go_on (setting_of c.args.self.now.task) names
          c.statement.new.progress.store.variables.names c.args.start items i x
          (progress_of c.loop-statement.progress)
          (progress_of c.statement.new.progress) c.loop-statement-test.true c.statement-item.is
          c.in_ok-statement.ensures.runs c.in_ok-statement.ensures.names
          ∙ c.loop-statement.invariant.left;
      names = names_go_on names c.statement.new.progress.store.variables.names items i x
          c.loop-statement-test.true c.statement-item.is c.in_ok-statement.ensures.names
          ∙ c.loop-statement.invariant.names;
      trace = blocks_go_on (tracing_of c.args.self.now.task) names
          c.statement.new.progress.store.variables.names c.args.start items i x
          (progress_of c.loop-statement.progress)
          (progress_of c.statement.new.progress) c.loop-statement.progress.trace
          c.statement.new.progress.trace c.loop-statement-test.true c.statement-item.is
          c.in_ok-statement.ensures.runs c.in_ok-statement.ensures.names
          c.in_ok-statement.ensures.trace
          ∙ c.loop-statement.invariant.trace;
    }

pub inside-returns-in_err-statement-clause-runs : goal.inside-returns-in_err-statement-clause-runs
inside-returns-in_err-statement-clause-runs g t c =
    let setting = setting_of c.args.self.now.task in
    let names = c.args.progress.now.store.variables.names in
    let p = progress_of c.args.progress.now in
    let e = c.in_err-statement.field-0.0 in
    let runs = stmt_run setting names (length names) (stmt_view c.args.statement.now) in
    let no : IsRefusal (runs p) e = subst
    (λ n. IsRefusal (stmt_run setting names n (stmt_view c.args.statement.now) p) e)
    c.count-start.ensures.names c.in_err-statement.ensures.runs in
    let reported : Runs (inside runs p) (Err e) (progress_of c.statement.new.progress) =
    inside_refused runs p e no in
    search rules

pub statements-returns-in_err-statement-clause-runs :
    goal.statements-returns-in_err-statement-clause-runs
statements-returns-in_err-statement-clause-runs g t c =
    let setting = setting_of c.args.self.now.task in
    let items = c.args.block.now in
    let start = c.args.start in
    let i = c.loop-statement.statement-index in
    let x = c.statement-item.result in
    let m = progress_of c.loop-statement.progress in
    let names = c.loop-statement.progress.store.variables.names in
    let whole = stmts_run setting c.args.progress.now.store.variables.names start
    (block_view items) (progress_of c.args.progress.now) in
    let e = c.in_err-statement.field-0.0 in
    let reported : Runs whole (Err e) (progress_of c.statement.new.progress) =
    refused_same (stmts_run setting names start (block_view (drop i items)) m) whole e
    (sym c.loop-statement.invariant.left)
    (stmts_refused setting names start items i x m e c.loop-statement-test.true
    c.statement-item.is c.in_err-statement.ensures.runs) in
    search rules

pub block-returns-in_err-statements-clause-runs : goal.block-returns-in_err-statements-clause-runs
block-returns-in_err-statements-clause-runs g t c =
    let setting = setting_of c.args.self.now.task in
    let names = c.args.progress.now.store.variables.names in
    let p = progress_of c.args.progress.now in
    let start = c.count-start.result in
    let e = c.in_err-statements.field-0.0 in
    let runs = stmts_run setting names (length names) (block_view c.args.block.now) in
    let no : IsRefusal (runs p) e = subst
    (λ n. IsRefusal (stmts_run setting names n (block_view c.args.block.now) p) e)
    c.count-start.ensures.names c.in_err-statements.ensures.runs in
    let reported : Runs (inside runs p) (Err e) (progress_of c.statements.new.progress) =
    inside_refused runs p e no in
    search rules

pub block-returns-clause-runs : goal.block-returns-clause-runs
block-returns-clause-runs g t c =
    let setting = setting_of c.args.self.now.task in
    let names = c.args.progress.now.store.variables.names in
    let p = progress_of c.args.progress.now in
    let start = c.count-start.result in
    let after = progress_of c.statements.new.progress in
    let runs = stmts_run setting names (length names) (block_view c.args.block.now) in
    let ran : runs p ≡ Ok after = subst (λ n. stmts_run setting names n
    (block_view c.args.block.now) p ≡ Ok after) c.count-start.ensures.names
    c.in_ok-statements.ensures.runs in
    inside_ran runs p after ran ∙ ap (λ (r : spec.Progress). Ok r)
    (left_is p after c.leave.new.self.variables start c.count-start.ensures.variables
    (ap (λ b. b.variables) c.leave.ensures))

pub block-returns-clause-names : goal.block-returns-clause-names
block-returns-clause-names g t c =
    block_names_left c.args.progress.now.store.variables.names
    c.statements.new.progress.store.variables.names c.leave.new.self.names
    (block_view c.args.block.now) c.count-start.result c.count-start.ensures.names
    c.in_ok-statements.ensures.names (ap (λ b. b.names) c.leave.ensures)

pub inside-returns-in_err-statement-clause-trace : goal.inside-returns-in_err-statement-clause-trace
inside-returns-in_err-statement-clause-trace g t c =
    let tracing = tracing_of c.args.self.now.task in
    let names = c.args.progress.now.store.variables.names in
    let p = progress_of c.args.progress.now in
    let trace = c.args.progress.now.trace in
    let s = c.args.statement.now in
    let e = c.in_err-statement.field-0.0 in
    let after = c.statement.new.progress.trace in
    let reported : Traces {X = Unit {0}} (Err e) (stmt_trace tracing names (length names) s p trace)
    after = subst (λ n. IsPlaceOf e (stmt_trace tracing names n s p trace).here after.here)
    c.count-start.ensures.names c.in_err-statement.ensures.trace in
    search rules

pub inside-returns-clause-trace : goal.inside-returns-clause-trace
inside-returns-clause-trace g t c =
    let tracing = tracing_of c.args.self.now.task in
    let names = c.args.progress.now.store.variables.names in
    let p = progress_of c.args.progress.now in
    let trace = c.args.progress.now.trace in
    subst (λ n. c.statement.new.progress.trace
    ≡ stmt_trace tracing names n c.args.statement.now p trace) c.count-start.ensures.names
    c.in_ok-statement.ensures.trace

pub block-returns-in_err-statements-clause-trace : goal.block-returns-in_err-statements-clause-trace
block-returns-in_err-statements-clause-trace g t c =
    let tracing = tracing_of c.args.self.now.task in
    let names = c.args.progress.now.store.variables.names in
    let p = progress_of c.args.progress.now in
    let trace = c.args.progress.now.trace in
    let block = c.args.block.now in
    let e = c.in_err-statements.field-0.0 in
    let after = c.statements.new.progress.trace in
    let reported : Traces {X = Unit {0}} (Err e)
    (block_trace tracing names (length names) block p trace) after =
    subst (λ n. IsPlaceOf e (block_trace tracing names n block p trace).here after.here)
    c.count-start.ensures.names c.in_err-statements.ensures.trace in
    search rules

pub block-returns-clause-trace : goal.block-returns-clause-trace
block-returns-clause-trace g t c =
    let tracing = tracing_of c.args.self.now.task in
    let names = c.args.progress.now.store.variables.names in
    let p = progress_of c.args.progress.now in
    let trace = c.args.progress.now.trace in
    subst (λ n. c.statements.new.progress.trace
    ≡ block_trace tracing names n c.args.block.now p trace) c.count-start.ensures.names
    c.in_ok-statements.ensures.trace

pub statements-returns-in_err-statement-clause-trace :
    goal.statements-returns-in_err-statement-clause-trace
statements-returns-in_err-statement-clause-trace g t c =
    let tracing = tracing_of c.args.self.now.task in
    let names = c.args.progress.now.store.variables.names in
    let p = progress_of c.args.progress.now in
    let trace = c.args.progress.now.trace in
    let items = c.args.block.now in
    let start = c.args.start in
    let i = c.loop-statement.statement-index in
    let x = c.statement-item.result in
    let m = progress_of c.loop-statement.progress in
    let names' = c.loop-statement.progress.store.variables.names in
    let trace' = c.loop-statement.progress.trace in
    let e = c.in_err-statement.field-0.0 in
    let after = c.statement.new.progress.trace in
    let left = block_placed tracing names' start items i x m trace' after.here e
    c.loop-statement-test.true c.statement-item.is c.in_err-statement.ensures.runs
    c.in_err-statement.ensures.trace in
    let whole = block_trace tracing names start items p trace in
    let reported : Traces {X = Unit {0}} (Err e) whole after =
    placed_same e (block_trace tracing names' start (drop i items) m trace').here whole.here
    after.here (ap (λ t. t.here) (sym c.loop-statement.invariant.trace)) left in
    search rules
