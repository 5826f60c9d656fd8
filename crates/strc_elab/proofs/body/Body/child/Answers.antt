use Rattle.std.proofs.Common.{◌∙◌, List, sym, ap, subst, None}
use Rattle.strc_parse_tree.specs.declared.tree.Member.{Member}
use Rattle.strc_parse_tree.specs.declared.tree.Stmt.{Stmt}
use Rattle.std.specs.Prelude.{Ok}
use Rattle.strc_parse_tree.specs.View.{child_view, block_view}
use Rattle.strc_work_meaning.specs.Filters.{filter_parts}
use Rattle.strc_elab.specs.Elaboration as spec
use Rattle.strc_elab.specs.Answering.{progress_of, Runs}
use Rattle.strc_elab.specs.Elaboration.{unnamed_found}
use Rattle.strc_elab.specs.Places.{child_trace, found_trace}
use Rattle.strc_elab.specs.declared.trace.Trace.{Trace}
use Rattle.strc_elab.specs.Sources.{FilterSource, CompositeSource}
use Rattle.strc_elab.specs.Tasks.{setting_of, tracing_of}
use Rattle.strc_elab_statements.specs.Texts.{FilterText, CompositeText}
use Rattle.strc_elab.proofs.ChildPlaces.{filter_child_trace, composite_child_trace}
use Rattle.strc_elab.proofs.Children.{filter_child, composite_child}
use Rattle.strc_elab.proofs.Places.{traces_same}
use Rattle.strc_elab.proofs.body.Body.child.Goals as goal

pub returns-in-Filter-clause-runs : goal.returns-in-Filter-clause-runs
returns-in-Filter-clause-runs g c =
    let setting = setting_of c.args.self.now.task in
    let before = progress_of c.args.progress.now in
    let names = c.args.progress.now.store.variables.names in
    let after = progress_of c.unnamed.new.progress in
    let types = c.in-Filter.types in
    let same = ap (λ child. spec.child_run setting names c.args.role (child_view child) before)
    c.in-Filter.is
    ∙ filter_child setting names c.args.role types c.in-Filter.members before
    ∙ ap (λ l. spec.found_run setting c.args.role (Ok
    (spec.unnamed_found setting names (FilterText None (filter_parts types.input types.output l))
    before.store)) before) (sym c.deref-in-Filter.ensures.value)
    in
    subst (λ r. Runs r c.unnamed.result after) (sym same) c.unnamed.ensures.runs

pub returns-in-Composite-clause-runs : goal.returns-in-Composite-clause-runs
returns-in-Composite-clause-runs g c =
    let setting = setting_of c.args.self.now.task in
    let before = progress_of c.args.progress.now in
    let names = c.args.progress.now.store.variables.names in
    let after = progress_of c.unnamed-in-Composite.new.progress in
    let same = ap (λ child. spec.child_run setting names c.args.role (child_view child) before)
    c.in-Composite.is
    ∙ composite_child setting names c.args.role c.in-Composite.written c.in-Composite.kind
    c.in-Composite.block
    before
    ∙ ap (λ l. spec.found_run setting c.args.role (Ok
    (spec.unnamed_found setting names (CompositeText c.in-Composite.written c.in-Composite.kind
    (block_view l)) before.store)) before) (sym c.deref-in-Composite.ensures.value)
    in
    subst (λ r. Runs r c.unnamed-in-Composite.result after)
    (sym same) c.unnamed-in-Composite.ensures.runs

pub returns-in-Filter-clause-trace : goal.returns-in-Filter-clause-trace
returns-in-Filter-clause-trace g c =
    let setting = setting_of c.args.self.now.task in
    let tracing = tracing_of c.args.self.now.task in
    let before = progress_of c.args.progress.now in
    let names = c.args.progress.now.store.variables.names in
    let trace = c.args.progress.now.trace in
    let role = c.args.role in
    let types = c.in-Filter.types in
    let own : List Member → Trace = λ l. found_trace tracing role (Ok
    (unnamed_found setting names (FilterText None (filter_parts types.input types.output l))
    before.store)) (FilterSource types l) before trace in
    traces_same c.unnamed.result (own c.deref-in-Filter.result.now)
    (child_trace tracing names role c.args.child.now before trace) c.unnamed.new.progress.trace
    (ap (λ child. child_trace tracing names role child before trace) c.in-Filter.is
    ∙ filter_child_trace tracing names types role c.in-Filter.members before trace
    ∙ ap own (sym c.deref-in-Filter.ensures.value)) c.unnamed.ensures.trace

pub returns-in-Composite-clause-trace : goal.returns-in-Composite-clause-trace
returns-in-Composite-clause-trace g c =
    let setting = setting_of c.args.self.now.task in
    let tracing = tracing_of c.args.self.now.task in
    let before = progress_of c.args.progress.now in
    let names = c.args.progress.now.store.variables.names in
    let trace = c.args.progress.now.trace in
    let role = c.args.role in
    let written = c.in-Composite.written in
    let kind = c.in-Composite.kind in
    let own : List Stmt → Trace = λ l. found_trace tracing role (Ok
    (unnamed_found setting names (CompositeText written kind (block_view l))
    before.store)) (CompositeSource written kind l) before trace in
    traces_same c.unnamed-in-Composite.result (own c.deref-in-Composite.result.now)
    (child_trace tracing names role c.args.child.now before trace)
    c.unnamed-in-Composite.new.progress.trace
    (ap (λ child. child_trace tracing names role child before trace) c.in-Composite.is
    ∙ composite_child_trace tracing names written kind c.in-Composite.block role before trace
    ∙ ap own (sym c.deref-in-Composite.ensures.value)) c.unnamed-in-Composite.ensures.trace
