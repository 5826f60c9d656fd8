use Rattle.std.proofs.Common.{[], ap, ◌∙◌, subst}
use Rattle.strc_parse_tree.specs.View.{block_view}
use Rattle.strc_elab.specs.Elaboration.{stmts_run, initial_progress}
use Rattle.strc_elab_statements.specs.Answers.{IsRefusal}
use Rattle.strc_elab.specs.Answering.{progress_of, IsPlaceOf}
use Rattle.strc_elab.specs.Places.{block_trace}
use Rattle.strc_elab.specs.Tasks.{setting_of, tracing_of, totals_of}
use Rattle.strc_elab.proofs.body.Body.run.Goals as goal

pub returns-in-Err-clause-verdict : goal.returns-in-Err-clause-verdict
returns-in-Err-clause-verdict g c =
    let setting = setting_of c.args.self.now.task in
    let block = block_view c.args.block.now in
    let initial = c.initial_progress-progress.result in
    let same = ap (λ names. stmts_run setting names 0 block (progress_of initial))
    c.initial_progress-progress.ensures.names
    ∙ ap (stmts_run setting [] 0 block) c.initial_progress-progress.ensures.progress in
    subst (λ outcome. IsRefusal outcome c.in-Err.error) same c.in-Err.ensures.runs

pub returns-in-Err-clause-place : goal.returns-in-Err-clause-place
returns-in-Err-clause-place g c =
    let tracing = tracing_of c.args.self.now.task in
    let block = c.args.block.now in
    let initial = c.initial_progress-progress.result in
    let begun = initial_progress c.args.kind (totals_of c.args.self.now.task) in
    let same = ap (λ names. block_trace tracing names 0 block (progress_of initial) initial.trace)
    c.initial_progress-progress.ensures.names
    ∙ ap (λ p. block_trace tracing [] 0 block p initial.trace)
    c.initial_progress-progress.ensures.progress
    ∙ ap (block_trace tracing [] 0 block begun) c.initial_progress-progress.ensures.trace in
    subst (λ t. IsPlaceOf c.in-Err.error t.here c.statements.new.progress.trace.here) same
    c.in-Err.ensures.trace

pub returns-in-Ok-clause-place : goal.returns-in-Ok-clause-place
returns-in-Ok-clause-place g c =
    let tracing = tracing_of c.args.self.now.task in
    let block = c.args.block.now in
    let initial = c.initial_progress-progress.result in
    let begun = initial_progress c.args.kind (totals_of c.args.self.now.task) in
    c.in-Ok.ensures.trace
    ∙ ap (λ names. block_trace tracing names 0 block (progress_of initial) initial.trace)
    c.initial_progress-progress.ensures.names
    ∙ ap (λ p. block_trace tracing [] 0 block p initial.trace)
    c.initial_progress-progress.ensures.progress
    ∙ ap (block_trace tracing [] 0 block begun) c.initial_progress-progress.ensures.trace
