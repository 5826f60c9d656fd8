use Rattle.std.proofs.Common.{◌≡◌, length, option_map, Ok, sym, ap, ◌∙◌, subst, rules}
use Rattle.std.proofs.lemmas.Result.{err_from_is_err_and}
use Rattle.strc_elab_graph.specs.NodeView.{splitter_view}
use Rattle.strc_elab_statements.specs.Answers.{IsRefusal}
use Rattle.strc_elab.specs.Answering.{progress_of, join_view}
use Rattle.strc_elab_statements.specs.Splits.{split_view}
use Rattle.strc_elab.specs.Elaboration as spec
use Rattle.strc_elab_statements.specs.Sides.{inputs_in, outputs_in, any_side}
use Rattle.strc_elab_statements.specs.Weights.{split_dealt, join_dealt}
use Rattle.strc_elab.proofs.Composites.{splitjoin_done, joins_refused, splits_refused}
use Rattle.strc_elab.specs.Places.{splitjoin_place}
use Rattle.strc_elab.proofs.AssemblyPlaces.{second_step, splitjoin_place-parts}
use Rattle.strc_elab.proofs.task.Task.splitjoin_assembly.Goals as goal

pub returns-then-is_as_written-clause-verdict :
    goal.returns-then-is_as_written-clause-verdict
returns-then-is_as_written-clause-verdict c =
    let declaration = c.args.self.now.declaration in
    let progress = c.args.progress.now in
    let types = progress.types.items in
    let split = split_view c.in-Some-Some.split in
    let join = c.in-Some-Some.join.items in
    let splitter = option_map splitter_view c.in_ok-splitter-in-Some-Some.splitter in
    let joiner = option_map (λ w. w.items) c.in_ok-joiner-in-Some-Some.joiner in
    let some : length types ≡ 0 → ⊥ = search rules in
    let inputs : c.in_ok-inputs-in-Some-Some.inputs.items ≡ inputs_in types =
    c.in_ok-inputs-in-Some-Some.ensures ∙ ap inputs_in c.deref.ensures.value in
    let outputs : c.in_ok-outputs-in-Some-Some.outputs.items ≡ outputs_in types =
    c.in_ok-outputs-in-Some-Some.ensures ∙ ap outputs_in c.deref-in-Some-Some.ensures.value in
    let splits : split_dealt declaration split (inputs_in types) ≡ Ok splitter =
    subst (λ l. split_dealt declaration split l ≡ Ok splitter)
    (c.deref-in-Some-Some-2.ensures.value ∙ inputs) c.in_ok-splitter-in-Some-Some.ensures.verdict in
    let joins : join_dealt declaration join (outputs_in types) ≡ Ok joiner =
    subst (λ l. join_dealt declaration l (outputs_in types) ≡ Ok joiner)
    c.deref-in-Some-Some-3.ensures.value
    (subst (λ l. join_dealt declaration c.deref-in-Some-Some-3.result.now l ≡ Ok joiner)
    (c.deref-in-Some-Some-4.ensures.value ∙ outputs) c.in_ok-joiner-in-Some-Some.ensures.verdict) in
    splitjoin_done declaration c.args.written types (option_map split_view progress.split)
    (join_view progress.join) (progress_of progress) split join splitter joiner c.any_side.result
    c.any_side-in-Some-Some.result some (ap (option_map split_view) c.in-Some-Some.is-0)
    (ap join_view c.in-Some-Some.is-1) splits joins
    (c.any_side.ensures ∙ ap any_side (c.deref-in-Some-Some-5.ensures.value ∙ inputs))
    (c.any_side-in-Some-Some.ensures
    ∙ ap any_side (c.deref-in-Some-Some-6.ensures.value ∙ outputs))
    (sym c.is_as_written.ensures ∙ c.if-is_as_written.true)
    ∙ ap (λ (m : spec.Elaborated). Ok m) (sym c.splitjoin_of.ensures)

pub returns-in_err-joiner-in-Some-Some : goal.returns-in_err-joiner-in-Some-Some
returns-in_err-joiner-in-Some-Some c =
    let p = err_from_is_err_and c.from_residual-in_err-joiner-in-Some-Some.result
    c.from_residual-in_err-joiner-in-Some-Some.ensures.1 in
    let refusal = c.in_err-joiner-in-Some-Some.field-0.0 in
    let e = refusal.error in
    let declaration = c.args.self.now.declaration in
    let progress = c.args.progress.now in
    let types = progress.types.items in
    let split = split_view c.in-Some-Some.split in
    let join = c.in-Some-Some.join.items in
    let splitter = option_map splitter_view c.in_ok-splitter-in-Some-Some.splitter in
    let some : length types ≡ 0 → ⊥ = search rules in
    let inputs : c.in_ok-inputs-in-Some-Some.inputs.items ≡ inputs_in types =
    c.in_ok-inputs-in-Some-Some.ensures ∙ ap inputs_in c.deref.ensures.value in
    let outputs : c.in_ok-outputs-in-Some-Some.outputs.items ≡ outputs_in types =
    c.in_ok-outputs-in-Some-Some.ensures ∙ ap outputs_in c.deref-in-Some-Some.ensures.value in
    let splits : split_dealt declaration split (inputs_in types) ≡ Ok splitter =
    subst (λ l. split_dealt declaration split l ≡ Ok splitter)
    (c.deref-in-Some-Some-2.ensures.value ∙ inputs) c.in_ok-splitter-in-Some-Some.ensures.verdict in
    let no : IsRefusal (join_dealt declaration join (outputs_in types)) e =
    subst (λ l. IsRefusal (join_dealt declaration l (outputs_in types)) e)
    c.deref-in-Some-Some-3.ensures.value
    (subst (λ l. IsRefusal (join_dealt declaration c.deref-in-Some-Some-3.result.now l) e)
    (c.deref-in-Some-Some-4.ensures.value ∙ outputs)
    c.in_err-joiner-in-Some-Some.ensures.verdict) in
    let parted = ap (option_map split_view) c.in-Some-Some.is-0 in
    let joined = ap join_view c.in-Some-Some.is-1 in
    let whole = splitjoin_place declaration types (option_map split_view progress.split)
    (join_view progress.join) (progress_of progress) progress.trace in
    record {
      verdict = rw (p.1, p.2) (joins_refused declaration c.args.written types
          (option_map split_view progress.split) (join_view progress.join) (progress_of progress)
          split join splitter e some parted joined splits no);
      place = rw (p.1, p.2) (second_step (split_dealt declaration split (inputs_in types))
          (join_dealt declaration join (outputs_in types)) splitter e progress.trace.split
          progress.trace.join whole refusal.place
          (splitjoin_place-parts declaration types (option_map split_view progress.split)
          (join_view progress.join) (progress_of progress) progress.trace split join some parted
          joined) splits no c.in_err-joiner-in-Some-Some.ensures.place);
    }

pub returns-in_err-splitter-in-Some-Some-clause-verdict :
    goal.returns-in_err-splitter-in-Some-Some-clause-verdict
returns-in_err-splitter-in-Some-Some-clause-verdict c =
    let p = err_from_is_err_and c.from_residual-in_err-splitter-in-Some-Some.result
    c.from_residual-in_err-splitter-in-Some-Some.ensures.1 in
    let e = c.in_err-splitter-in-Some-Some.field-0.0.error in
    let declaration = c.args.self.now.declaration in
    let progress = c.args.progress.now in
    let types = progress.types.items in
    let split = split_view c.in-Some-Some.split in
    let some : length types ≡ 0 → ⊥ = search rules in
    let inputs : c.in_ok-inputs-in-Some-Some.inputs.items ≡ inputs_in types =
    c.in_ok-inputs-in-Some-Some.ensures ∙ ap inputs_in c.deref.ensures.value in
    let no : IsRefusal (split_dealt declaration split (inputs_in types)) e =
    subst (λ l. IsRefusal (split_dealt declaration split l) e)
    (c.deref-in-Some-Some-2.ensures.value ∙ inputs)
    c.in_err-splitter-in-Some-Some.ensures.verdict in
    rw (p.1, p.2) (splits_refused declaration c.args.written types
    (option_map split_view progress.split) (join_view progress.join) (progress_of progress) split
    c.in-Some-Some.join.items e some (ap (option_map split_view) c.in-Some-Some.is-0)
    (ap join_view c.in-Some-Some.is-1) no)
