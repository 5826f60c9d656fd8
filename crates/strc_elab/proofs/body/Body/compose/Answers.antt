use Rattle.std.proofs.Common.{sym, subst}
use Rattle.strc_parse_tree.specs.View.{composition_view}
use Rattle.strc_elab.specs.Answering.{progress_of, Runs, Traces}
use Rattle.strc_elab.specs.Elaboration.{composed}
use Rattle.strc_elab.specs.Places.{composed_trace}
use Rattle.strc_elab.specs.Tasks.{setting_of, tracing_of}
use Rattle.strc_elab.proofs.body.Body.compose.Goals as goal

pub returns-in-Child-clause-runs : goal.returns-in-Child-clause-runs
returns-in-Child-clause-runs g c =
    let setting = setting_of c.args.self.now.task in
    let names = c.args.progress.now.store.variables.names in
    let before = progress_of c.args.progress.now in
    let after = progress_of c.child_for.new.progress in
    subst (λ s. Runs (composed setting names (composition_view s) before) c.child_for.result after)
    (sym c.in-Child.is) c.child_for.ensures.runs

pub returns-in-Child-clause-trace : goal.returns-in-Child-clause-trace
returns-in-Child-clause-trace g c =
    let tracing = tracing_of c.args.self.now.task in
    let names = c.args.progress.now.store.variables.names in
    let before = progress_of c.args.progress.now in
    let trace = c.args.progress.now.trace in
    subst (λ s. Traces c.child_for.result (composed_trace tracing names s before trace)
    c.child_for.new.progress.trace) (sym c.in-Child.is) c.child_for.ensures.trace
