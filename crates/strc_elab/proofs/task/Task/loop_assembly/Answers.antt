use Rattle.std.proofs.Common.{◌≡◌, ◌∙◌, sym, ap, subst, true, is_some, option_map, Ok, nat_lt}
use Rattle.std.proofs.Common.{slice_index, ℕ, List}
use Rattle.std.proofs.lemmas.Result.{err_from_is_err_and}
use Rattle.strc_elab_graph.specs.NodeView.{splitter_view}
use Rattle.strc_elab_stream.specs.Types.{side}
use Rattle.strc_elab_statements.specs.Answers.{IsRefusal}
use Rattle.strc_elab.specs.Answering.{progress_of, join_view, part_view}
use Rattle.strc_elab_statements.specs.Splits.{split_view}
use Rattle.strc_elab_statements.specs.Weights.{weighted, loop_weights, loop_splitter, input_written}
use Rattle.strc_elab_statements.specs.Weights.{output_written}
use Rattle.strc_elab.proofs.Composites.{loop_starts, joiner_refused, splitter_refused}
use Rattle.strc_elab.proofs.Composites.{types_refused}
use Rattle.strc_elab_statements.proofs.Refusals.{refused_same}
use Rattle.strc_elab.specs.Places.{loop_place}
use Rattle.strc_elab.proofs.AssemblyPlaces.{first_step, second_step, loop_place-parts}
use Rattle.strc_elab.proofs.task.Task.loop_assembly.Goals as goal

pub returns-in_err-joiner-in-Some-Some : goal.returns-in_err-joiner-in-Some-Some
returns-in_err-joiner-in-Some-Some c =
    let p = err_from_is_err_and c.from_residual.result c.from_residual.ensures.1 in
    let refusal = c.in_err-joiner-in-Some-Some.field-0.0 in
    let e = refusal.error in
    let declaration = c.args.self.now.declaration in
    let written = c.args.written in
    let progress = c.args.progress.now in
    let join = c.in-Some-Some.join in
    let held : is_some progress.body ≡ true = sym c.is_some.ensures ∙ c.if-is_some.true in
    let back : is_some progress.looped ≡ true =
    sym c.is_some-then-is_some.ensures ∙ c.if-is_some-2.true in
    let start = loop_starts declaration written progress.join progress.body progress.split
    progress.looped (progress_of progress) join c.in-Some-Some.split c.in-Some-Some.is-0
    c.in-Some-Some.is-1 held back in
    let no : IsRefusal (weighted declaration (loop_weights (input_written written) join.items)) e =
    subst (λ t. IsRefusal (weighted declaration (loop_weights t join.items)) e)
    c.input_written-taken.ensures
    (subst (λ ws. IsRefusal (weighted declaration
    (loop_weights c.input_written-taken.result ws)) e)
    c.deref.ensures.value c.in_err-joiner-in-Some-Some.ensures.verdict) in
    let split = c.in-Some-Some.split in
    let whole = loop_place declaration written (join_view progress.join) (part_view progress.body)
    (option_map split_view progress.split) (part_view progress.looped) progress.trace in
    let parts = loop_place-parts declaration written progress.join progress.body progress.split
    progress.looped progress.trace join split c.in-Some-Some.is-0 c.in-Some-Some.is-1 held back in
    let joining = weighted declaration (loop_weights (input_written written) join.items) in
    let splitting = weighted declaration
    (loop_splitter (output_written written) (split_view split)) in
    record {
      verdict = rw (p.1, p.2) (refused_same _ _ e start.starts (joiner_refused declaration written
          join.items start.inner start.back (split_view split) (progress_of progress) e no));
      place = rw (p.1, p.2) (first_step joining splitting e progress.trace.join
          progress.trace.split whole refusal.place parts no
          c.in_err-joiner-in-Some-Some.ensures.place);
    }

pub returns-in_err-splitter-in-Some-Some : goal.returns-in_err-splitter-in-Some-Some
returns-in_err-splitter-in-Some-Some c =
    let p = err_from_is_err_and c.from_residual-in_err-splitter-in-Some-Some.result
    c.from_residual-in_err-splitter-in-Some-Some.ensures.1 in
    let refusal = c.in_err-splitter-in-Some-Some.field-0.0 in
    let e = refusal.error in
    let declaration = c.args.self.now.declaration in
    let written = c.args.written in
    let progress = c.args.progress.now in
    let join = c.in-Some-Some.join in
    let joiner = c.in_ok-joiner-in-Some-Some.joiner.items in
    let held : is_some progress.body ≡ true = sym c.is_some.ensures ∙ c.if-is_some.true in
    let back : is_some progress.looped ≡ true =
    sym c.is_some-then-is_some.ensures ∙ c.if-is_some-2.true in
    let start = loop_starts declaration written progress.join progress.body progress.split
    progress.looped (progress_of progress) join c.in-Some-Some.split c.in-Some-Some.is-0
    c.in-Some-Some.is-1 held back in
    let joins : weighted declaration (loop_weights (input_written written) join.items)
    ≡ Ok joiner =
    subst (λ t. weighted declaration (loop_weights t join.items) ≡ Ok joiner)
    c.input_written-taken.ensures
    (subst (λ ws. weighted declaration (loop_weights c.input_written-taken.result ws) ≡ Ok joiner)
    c.deref.ensures.value c.in_ok-joiner-in-Some-Some.ensures.verdict) in
    let no : IsRefusal (weighted declaration
    (loop_splitter (output_written written) (split_view c.in-Some-Some.split))) e =
    subst (λ t. IsRefusal (weighted declaration
    (loop_splitter t (split_view c.in-Some-Some.split))) e)
    c.output_written-given.ensures c.in_err-splitter-in-Some-Some.ensures.verdict in
    let split = c.in-Some-Some.split in
    let whole = loop_place declaration written (join_view progress.join) (part_view progress.body)
    (option_map split_view progress.split) (part_view progress.looped) progress.trace in
    let parts = loop_place-parts declaration written progress.join progress.body progress.split
    progress.looped progress.trace join split c.in-Some-Some.is-0 c.in-Some-Some.is-1 held back in
    let joining = weighted declaration (loop_weights (input_written written) join.items) in
    let splitting = weighted declaration
    (loop_splitter (output_written written) (split_view split)) in
    record {
      verdict = rw (p.1, p.2) (refused_same _ _ e start.starts (splitter_refused declaration written
          join.items start.inner start.back (split_view split) (progress_of progress) joiner e joins
          no));
      place = rw (p.1, p.2) (second_step joining splitting joiner e progress.trace.join
          progress.trace.split whole refusal.place parts joins no
          c.in_err-splitter-in-Some-Some.ensures.place);
    }

pub returns-else-is_as_written-clause-verdict :
    goal.returns-else-is_as_written-clause-verdict
returns-else-is_as_written-clause-verdict c =
    let declaration = c.args.self.now.declaration in
    let written = c.args.written in
    let progress = c.args.progress.now in
    let join = c.in-Some-Some.join in
    let joiner = c.in_ok-joiner-in-Some-Some.joiner.items in
    let splitter = splitter_view c.in_ok-splitter-in-Some-Some.splitter in
    let held : is_some progress.body ≡ true = sym c.is_some.ensures ∙ c.if-is_some.true in
    let back : is_some progress.looped ≡ true =
    sym c.is_some-then-is_some.ensures ∙ c.if-is_some-2.true in
    let start = loop_starts declaration written progress.join progress.body progress.split
    progress.looped (progress_of progress) join c.in-Some-Some.split c.in-Some-Some.is-0
    c.in-Some-Some.is-1 held back in
    let joins : weighted declaration (loop_weights (input_written written) join.items)
    ≡ Ok joiner =
    subst (λ t. weighted declaration (loop_weights t join.items) ≡ Ok joiner)
    c.input_written-taken.ensures
    (subst (λ ws. weighted declaration (loop_weights c.input_written-taken.result ws) ≡ Ok joiner)
    c.deref.ensures.value c.in_ok-joiner-in-Some-Some.ensures.verdict) in
    let splits : weighted declaration
    (loop_splitter (output_written written) (split_view c.in-Some-Some.split)) ≡ Ok splitter =
    subst (λ t. weighted declaration (loop_splitter t (split_view c.in-Some-Some.split))
    ≡ Ok splitter) c.output_written-given.ensures c.in_ok-splitter-in-Some-Some.ensures.verdict in
    rw c.refused_whole.ensures.error (start.starts ∙ types_refused declaration written join.items
    start.inner start.back (split_view c.in-Some-Some.split) (progress_of progress) joiner splitter
    c.loop_types-types.result joins splits
    (c.loop_types-types.ensures.input
    ∙ ap (λ (l : List ℕ). side (nat_lt 0 (slice_index l 0))) c.deref-in-Some-Some.ensures.value)
    c.loop_types-types.ensures.output (sym c.is_as_written.ensures ∙ c.if-is_as_written.false))
