use Rattle.std.proofs.Common.{rules, ◌≡◌, ◌-◌, Option, Result, Ok, Err, sym, ap, ◌∙◌, subst}
use Rattle.std.specs.Option.{option_or}
use Rattle.strc_lex_names.specs.Results.{result_and_then}
use Rattle.strc_lex_names.specs.declared.place.Span.{Span}
use Rattle.strc_elab_statements.specs.Answers.{IsRefusal}
use Rattle.strc_elab_statements.specs.declared.error.ElabError.{ElabError}
use Rattle.strc_elab_statements.proofs.Refusals.{first_refused}
use Rattle.strc_elab.specs.Answering.{progress_of, Runs, Traces, IsPlaced, IsPlacedVerdict}
use Rattle.strc_elab.specs.Answering.{IsPlaceOf, IsWithin}
use Rattle.strc_elab.specs.Elaboration as spec
use Rattle.strc_elab.specs.Places.{place_after, child_traced, with_child, stream_place}
use Rattle.strc_elab.specs.Sources.{text_source}
use Rattle.strc_elab.specs.Tasks.{IsReady, setting_of, program_of, place_of, text_view}
use Rattle.strc_elab.specs.Tasks.{elaborated_view}
use Rattle.strc_elab.specs.declared.placed_error.PlacedError.{PlacedError}
use Rattle.strc_elab.specs.declared.task.Task.{Task}
use Rattle.strc_elab.specs.declared.trace.Trace.{Trace}
use Rattle.strc_elab.proofs.Levels.{IsJudged, judged_at}
use Rattle.strc_elab.proofs.Places.{mapped_placed, first_placed, place_after_done, traces_same}
use Rattle.strc_elab.proofs.body.Body.elaborated.Goals as goal

pub returns-in_err-elaborated-clause-runs : goal.returns-in_err-elaborated-clause-runs
unfolding IsReady
returns-in_err-elaborated-clause-runs g c =
    let task = c.args.self.now.task in
    let p = progress_of c.args.progress.now in
    let trace = c.args.progress.now.trace in
    let turns = c.args.progress.now.store.turns in
    let filters = c.args.progress.now.filters in
    let below : Task = record {
      alloc = task.alloc;
      declarations = task.declarations;
      numbers = task.numbers;
      levels = c.saturating_sub.result;
      declaration = c.args.declaration;
      constants = c.args.constants;
      text = c.args.text;
      totals = c.totals.result;
    } in
    let level : c.saturating_sub.result ≡ task.levels - 1 = search rules in
    let answer = c.elaborate-answer.result in
    let judged : IsJudged below (task.levels - 1) turns filters answer =
    judged_at below (task.levels - 1) turns filters answer level c.totals.ensures.turns
    c.totals.ensures.filters
    (c.requires.1.elaborates below answer level c.elaborate-answer.ensures) in
    let judge = spec.stream_elaborated (program_of task) (task.levels - 1) (place_of below)
    (text_view c.args.text) (record { turns = turns; filters = filters }) in
    let e = c.in_err-elaborated.field-0.0 in
    let found = c.given_below.new.here in
    let within : IsWithin c.in_own_text.result e trace.here found = c.in_err-elaborated.ensures in
    let refusal : PlacedError = record { error = e; place = within.place } in
    let answered : answer ≡ Err refusal = sym c.in_own_text.ensures ∙ within.answered in
    let refuses : IsRefusal judge e =
    subst (λ a. IsPlacedVerdict elaborated_view judge a) answered judged.verdict in
    let added : spec.Elaborated → Result spec.Progress ElabError =
    spec.child_added (setting_of task) c.args.role p p.store in
    let reported : Runs (result_and_then judge added) (Err e) p =
    first_refused judge added e refuses in
    search rules

pub returns-in_err-elaborated-clause-trace : goal.returns-in_err-elaborated-clause-trace
unfolding IsReady
returns-in_err-elaborated-clause-trace g c =
    let task = c.args.self.now.task in
    let p = progress_of c.args.progress.now in
    let trace = c.args.progress.now.trace in
    let turns = c.args.progress.now.store.turns in
    let filters = c.args.progress.now.filters in
    let below : Task = record {
      alloc = task.alloc;
      declarations = task.declarations;
      numbers = task.numbers;
      levels = c.saturating_sub.result;
      declaration = c.args.declaration;
      constants = c.args.constants;
      text = c.args.text;
      totals = c.totals.result;
    } in
    let level : c.saturating_sub.result ≡ task.levels - 1 = search rules in
    let answer = c.elaborate-answer.result in
    let judged : IsJudged below (task.levels - 1) turns filters answer =
    judged_at below (task.levels - 1) turns filters answer level c.totals.ensures.turns
    c.totals.ensures.filters
    (c.requires.1.elaborates below answer level c.elaborate-answer.ensures) in
    let judge = spec.stream_elaborated (program_of task) (task.levels - 1) (place_of below)
    (text_view c.args.text) (record { turns = turns; filters = filters }) in
    let e = c.in_err-elaborated.field-0.0 in
    let found = c.given_below.new.here in
    let within : IsWithin c.in_own_text.result e trace.here found = c.in_err-elaborated.ensures in
    let refusal : PlacedError = record { error = e; place = within.place } in
    let answered : answer ≡ Err refusal = sym c.in_own_text.ensures ∙ within.answered in
    let refuses : IsRefusal judge e =
    subst (λ a. IsPlacedVerdict elaborated_view judge a) answered judged.verdict in
    let located = stream_place task.declarations.now (task.levels - 1) (place_of below)
    (text_source c.args.text) (record { turns = turns; filters = filters }) in
    let own : Trace = record trace { here = option_or located trace.here } in
    let next : spec.Elaborated → Trace = λ e. child_traced c.args.role p.types trace in
    let at : IsPlaceOf e located within.place =
    subst (λ a. IsPlaced located a) answered judged.place in
    let moved : IsPlaceOf e own.here found = subst (λ s. IsPlaceOf e own.here s) (sym within.moved)
    (mapped_placed e (λ s. option_or s trace.here) located within.place at) in
    let after : Trace = record trace { here = found } in
    let reported : Traces {X = Unit {0}} (Err e) (place_after judge own next) after =
    first_placed judge e own found next refuses moved in
    search rules

pub returns-in-Add-clause-trace : goal.returns-in-Add-clause-trace
unfolding IsReady
returns-in-Add-clause-trace g c =
    let task = c.args.self.now.task in
    let p = progress_of c.args.progress.now in
    let trace = c.args.progress.now.trace in
    let turns = c.args.progress.now.store.turns in
    let filters = c.args.progress.now.filters in
    let below : Task = record {
      alloc = task.alloc;
      declarations = task.declarations;
      numbers = task.numbers;
      levels = c.saturating_sub.result;
      declaration = c.args.declaration;
      constants = c.args.constants;
      text = c.args.text;
      totals = c.totals.result;
    } in
    let level : c.saturating_sub.result ≡ task.levels - 1 = search rules in
    let answer = c.elaborate-answer.result in
    let judged : IsJudged below (task.levels - 1) turns filters answer =
    judged_at below (task.levels - 1) turns filters answer level c.totals.ensures.turns
    c.totals.ensures.filters
    (c.requires.1.elaborates below answer level c.elaborate-answer.ensures) in
    let judge = spec.stream_elaborated (program_of task) (task.levels - 1) (place_of below)
    (text_view c.args.text) (record { turns = turns; filters = filters }) in
    let located = stream_place task.declarations.now (task.levels - 1) (place_of below)
    (text_source c.args.text) (record { turns = turns; filters = filters }) in
    let own : Trace = record trace { here = option_or located trace.here } in
    let next : spec.Elaborated → Trace = λ e. child_traced c.args.role p.types trace in
    let elaborated = c.in_ok-elaborated.elaborated in
    let answered : answer ≡ Ok elaborated =
    sym c.in_own_text.ensures ∙ c.in_ok-elaborated.ensures.0 in
    let gives : judge ≡ Ok (elaborated_view elaborated) =
    subst (λ a. IsPlacedVerdict elaborated_view judge a) answered judged.verdict in
    let added : Option Span → Trace = λ h. with_child p.types (record trace { here = h }) in
    traces_same c.add.result (added c.given_below.new.here) (place_after judge own next)
    c.add.new.progress.trace
    (place_after_done judge own next (elaborated_view elaborated) gives
    ∙ ap (λ r. child_traced r p.types trace) c.in-Add.is
    ∙ ap added (sym c.in_ok-elaborated.ensures.1)) c.add.ensures.trace
