use Rattle.std.proofs.Common.{◌≡◌, [], map, length, false, is_some, Some, Ok, sym, ap, ◌∙◌, subst}
use Rattle.std.proofs.lemmas.List.{length-map}
use Rattle.strc_parse_tree.specs.View.{declaration_view, expr_view}
use Rattle.strc_elab_statements.specs.Saying.{store_of}
use Rattle.strc_elab_statements.specs.Texts.{parameters_of, is_doubled, text_of}
use Rattle.strc_elab.specs.Answering.{progress_of, Runs}
use Rattle.strc_elab.specs.Elaboration as spec
use Rattle.strc_elab.specs.Places.{found_trace}
use Rattle.strc_elab.specs.Sources.{declaration_source, text_source}
use Rattle.strc_elab.specs.Tasks.{setting_of, tracing_of, text_view}
use Rattle.strc_elab.proofs.Children.{called_found, found_anew}
use Rattle.strc_elab.proofs.Places.{traces_same}
use Rattle.strc_elab.proofs.body.Body.call.Goals as goal

pub returns-clause-runs : goal.returns-clause-runs
returns-clause-runs g c =
    let setting = setting_of c.args.self.now.task in
    let role = c.args.role in
    let names = c.args.progress.now.store.variables.names in
    let p = progress_of c.args.progress.now in
    let after = progress_of c.elaborated.new.progress in
    let declaration = declaration_view c.args.declaration.now in
    let arguments = map expr_view c.args.arguments.now in
    let store = store_of c.arguments.new.store in
    let bound = c.in_ok-constants.constants in
    let parameters : c.parameters_of-parameters.result.now ≡ parameters_of declaration =
    c.parameters_of-parameters.ensures in
    let same : length arguments ≡ length (parameters_of declaration) =
    length-map c.args.arguments.now expr_view ∙ c.if-arguments-parameters.false
    ∙ ap (λ l. length l) parameters in
    let given : spec.arguments_given setting names (parameters_of declaration) arguments [] p.store
    ≡ Ok (bound, store) =
    subst (λ l. spec.arguments_given setting names l arguments [] p.store ≡ Ok (bound, store))
    parameters c.in_ok-constants.ensures.binds in
    let plain : is_doubled (parameters_of declaration) ≡ false =
    subst (λ l. is_doubled l ≡ false) parameters
    (sym c.in_ok-twice.ensures ∙ ap is_some c.in_default.is) in
    let found : spec.Found = record {
      place = record { declaration = c.args.number; constants = bound };
      text = text_of declaration.name declaration.stream;
      store = store;
    } in
    let called = called_found setting names [] c.args.number declaration arguments p.store store
    bound same given plain in
    let whole = ap (λ o. spec.found_run setting role o p) called
    ∙ sym (found_anew setting role found p store) in
    let ran : Runs (spec.found_run setting role (Ok found) (record p { store = store }))
    c.elaborated.result after =
    subst (λ t. Runs (spec.found_run setting role (Ok (record found { text = t }))
    (record p { store = store })) c.elaborated.result after)
    c.text_of-text.ensures.view c.elaborated.ensures.runs in
    subst (λ r. Runs r c.elaborated.result after) (sym whole) ran

pub returns-clause-trace : goal.returns-clause-trace
returns-clause-trace g c =
    let setting = setting_of c.args.self.now.task in
    let names = c.args.progress.now.store.variables.names in
    let p = progress_of c.args.progress.now in
    let tracing = tracing_of c.args.self.now.task in
    let trace = c.args.progress.now.trace in
    let role = c.args.role in
    let text = c.text_of-text.result in
    let source = declaration_source c.args.declaration.now in
    let declaration = declaration_view c.args.declaration.now in
    let arguments = map expr_view c.args.arguments.now in
    let store = store_of c.arguments.new.store in
    let bound = c.in_ok-constants.constants in
    let parameters : c.parameters_of-parameters.result.now ≡ parameters_of declaration =
    c.parameters_of-parameters.ensures in
    let same : length arguments ≡ length (parameters_of declaration) =
    length-map c.args.arguments.now expr_view ∙ c.if-arguments-parameters.false
    ∙ ap (λ l. length l) parameters in
    let given : spec.arguments_given setting names (parameters_of declaration) arguments [] p.store
    ≡ Ok (bound, store) =
    subst (λ l. spec.arguments_given setting names l arguments [] p.store ≡ Ok (bound, store))
    parameters c.in_ok-constants.ensures.binds in
    let plain : is_doubled (parameters_of declaration) ≡ false =
    subst (λ l. is_doubled l ≡ false) parameters
    (sym c.in_ok-twice.ensures ∙ ap is_some c.in_default.is) in
    let found : spec.Found = record {
      place = record { declaration = c.args.number; constants = bound };
      text = text_of declaration.name declaration.stream;
      store = store;
    } in
    let called = called_found setting names [] c.args.number declaration arguments p.store store
    bound same given plain in
    let read : spec.Found = record found { text = text_view text } in
    traces_same c.elaborated.result
    (found_trace tracing role (Ok read) (text_source text) p trace)
    (found_trace tracing role (spec.named_found setting names []
    (Some (c.args.number, declaration)) arguments p.store) source p trace)
    c.elaborated.new.progress.trace
    (ap (λ o. found_trace tracing role o source p trace) called
    ∙ ap (λ t. found_trace tracing role (Ok (record found { text = t })) source p trace)
    (sym c.text_of-text.ensures.view)
    ∙ ap (λ s. found_trace tracing role (Ok read) s p trace) (sym c.text_of-text.ensures.source))
    c.elaborated.ensures.trace
