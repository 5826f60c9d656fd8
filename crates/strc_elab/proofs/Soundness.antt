-- Each stream that a program means takes and gives nothing, its types fit, and its filters are
-- instances of texts.
use Rattle.std.proofs.Common.{◌≡◌, ℕ, zero, suc, ◌+◌, ℤ, Bool, true, false, List, [], ◌∷◌, length}
use Rattle.std.proofs.Common.{Option, Some, None, Result, Ok, Err, IfOk, cond, nat_lt, nat_eq, refl}
use Rattle.std.proofs.Common.{sym, ap, ◌∙◌, subst}
use Rattle.std.specs.List.{AllByRecursion}
use Rattle.strc_parse_tree.specs.Tree as tree
use Rattle.strc_parse_tree.specs.Tree.{Declaration}
use Rattle.strc_parse_tree.specs.declared.tree.ItemType.TheVariants as item
use Rattle.strc_parse_tree.specs.declared.tree.StreamType.{StreamType}
use Rattle.strc_parse_tree.specs.declared.tree.CompositeKind.{CompositeKind}
use Rattle.strc_parse_tree.specs.declared.tree.CompositeKind.TheVariants as composite
use Rattle.strc_work_meaning.specs.Filters.{Filter}
use Rattle.strc_work_meaning.specs.Firing.{started}
use Rattle.strc_work_meaning.specs.declared.fault.Cause.{Cause}
use Rattle.strc_work_rules.specs.Resolution.{filter_resolved}
use Rattle.strc_work_rules.specs.declared.error.LowerError.{LowerError}
use Rattle.strc_work_rules.proofs.Resolving.{resolved_types}
use Rattle.strc_elab_statements.specs.declared.error.ElabError.{ElabError}
use Rattle.strc_elab_statements.specs.declared.error.ElabErrorKind.TheVariants as refused
use Rattle.strc_elab_statements.specs.Statements.{ruled}
use Rattle.strc_elab_statements.specs.Texts.{Place, Text, FilterText, CompositeText, IdentityText}
use Rattle.strc_elab_statements.specs.Texts.{ReaderText}
use Rattle.strc_elab_statements.specs.Texts.{WriterText, text_of, parameters_of, declared_from}
use Rattle.strc_elab_stream.specs.Flattening.{nodes_of}
use Rattle.strc_elab_stream.specs.Instances.{Stream}
use Rattle.strc_elab_stream.specs.Instances as instance
use Rattle.strc_elab_stream.specs.Types.{IsWellTyped}
use Rattle.strc_elab.specs.Elaboration.{filter_limit, Totals, Elaborated, Setting, Progress}
use Rattle.strc_elab.specs.Elaboration.{stmts_run, started_as, instance_of}
use Rattle.strc_elab_statements.specs.Written.{same_item}
use Rattle.strc_elab.specs.Elaboration.{initial_progress, as_written, pipeline_assembly}
use Rattle.strc_elab_statements.specs.Written.{is_as_written}
use Rattle.strc_elab.specs.Elaboration.{splitjoin_assembly, loop_assembly, composite_assembly}
use Rattle.strc_elab_statements.specs.Sides.{inputs_in}
use Rattle.strc_elab.specs.Elaboration.{composite_elaborated, given_elaborated}
use Rattle.strc_elab_statements.specs.Sides.{outputs_in}
use Rattle.strc_elab.specs.Elaboration.{text_elaborated, stream_elaborated, level_limit}
use Rattle.strc_elab_statements.specs.MainStreams.{types_of}
use Rattle.strc_elab_statements.specs.MainStreams.{can_be_main, mains_from, only_main, named_main}
use Rattle.strc_elab_statements.specs.MainStreams.{main_of}
use Rattle.strc_elab.specs.Elaboration.{main_elaborated, elaborated}
use Rattle.strc_elab_statements.specs.MainStreams.{not_doubled, doubled_from}
use Rattle.strc_elab.specs.Sound.{IsInstance, IsElaborated}
use Rattle.strc_elab_statements.specs.Weights.{Split, weighted, split_dealt, join_dealt}
use Rattle.strc_elab_statements.specs.Weights.{input_written}
use Rattle.strc_elab_statements.specs.Weights.{output_written, loop_weights, loop_splitter}
use Rattle.strc_elab.proofs.Keeping.{stmts_kept}
use Rattle.strc_elab.proofs.SoundBodies.{MakesSound, keeps_sound}
use Rattle.strc_elab.proofs.SoundAssembly.{IsSound, IsSoundlyElaborated, composite_sound}
use Rattle.strc_elab.proofs.SoundRows.{items_same}
use Rattle.strc_elab.proofs.Steps.{then_known, then_did, any_holds, kept_holds}
use Rattle.strc_elab.proofs.Steps.{both_true}
use Rattle.strc_lex_names.proofs.Results.{then_ok, both_ok}

-- instances

is_ruled : {A : Type 0} (declaration : ℕ) (r : Result A LowerError) (x : A)
    → ruled declaration r ≡ Ok x → r ≡ Ok x
is_ruled declaration (Ok y) x e = let same : y ≡ x = cc in ap (λ z. Ok z) same
is_ruled declaration (Err broken) x e = absurd (cc)

is_started : {A : Type 0} (filter found : Filter) (r : Result A Cause)
    → started_as filter r ≡ Ok found → filter ≡ found
is_started filter found (Ok fields) e = cc
is_started filter found (Err cause) e = absurd (cc)

-- an instance is a resolved filter
pub instance_resolved : (place : Place) (filter found : Filter)
    → instance_of place filter ≡ Ok found → filter_resolved place.constants filter ≡ Ok found
instance_resolved place filter found e =
    let did = then_did (ruled place.declaration (filter_resolved place.constants filter))
    (λ resolved. started_as resolved (started resolved)) found e in
    let same = is_started did.0 found (started did.0) did.2 in
    is_ruled place.declaration (filter_resolved place.constants filter) did.0 did.1
    ∙ ap (λ (f : Filter). Ok f) same

-- streams

body_sound : (setting : Setting) → MakesSound setting
    → (written : Option StreamType) (kind : CompositeKind) (block : tree.Stmts) (totals : Totals)
    → IfOk (composite_elaborated setting written kind block totals) IsSoundlyElaborated
body_sound setting makes written kind block totals =
    then_ok (stmts_run setting [] 0 block (initial_progress kind totals))
    (λ progress. composite_assembly kind setting.place.declaration written progress)
    (IsSound kind) IsSoundlyElaborated
    (stmts_kept setting (IsSound kind) (keeps_sound kind setting makes) [] 0 block
    (initial_progress kind totals)
    (record { is_kind = refl; children = tt; row = λ is. tt; body = tt; loop = tt }))
    (λ progress sound. composite_sound kind setting.place.declaration written progress sound)

given_sound : (stream : Stream) (totals : Totals) → IsWellTyped stream
    → AllByRecursion IsInstance (nodes_of stream)
    → IfOk (given_elaborated stream totals) IsSoundlyElaborated
given_sound stream totals typed instances =
    kept_holds (nat_lt totals.filters filter_limit) refused.NodeLimit _ IsSoundlyElaborated
    (λ e. record { typed = typed; input = refl; output = refl; instances = instances })

text_sound : (setting : Setting) → MakesSound setting → (text : Text) (totals : Totals)
    → IfOk (text_elaborated setting text totals) IsSoundlyElaborated
text_sound setting makes (FilterText name filter) totals =
    kept_holds (nat_lt totals.filters filter_limit) refused.NodeLimit _ IsSoundlyElaborated (λ e.
    then_known (instance_of setting.place filter) _ IsSoundlyElaborated (λ resolved is.
    record {
      typed = tt;
      input = refl;
      output = refl;
      instances =
          ((setting.place, filter, is), tt);
    }))
text_sound setting makes (CompositeText written kind block) totals =
    body_sound setting makes written kind block totals
text_sound setting makes IdentityText totals = given_sound instance.Identity totals tt (tt, tt)
text_sound setting makes (ReaderText text) totals = given_sound (instance.FileReader text) totals tt
    (tt, tt)
text_sound setting makes (WriterText text) totals = given_sound (instance.FileWriter text) totals tt
    (tt, tt)

pub stream_sound : (program : List Declaration) (levels : ℕ) (place : Place) (text : Text)
    (totals : Totals)
    → IfOk (stream_elaborated program levels place text totals) IsSoundlyElaborated
stream_sound program zero place text totals = tt
stream_sound program (suc levels) place text totals =
    text_sound (record {
      program = program;
      place = place;
      elaborate =
          stream_elaborated program levels;
    }) (λ p t y. stream_sound program levels p t y) text totals

-- what is made of a declared stream has the declared types
abbrev pub HasTypes : StreamType → Elaborated → Type 0
HasTypes types elaborated =
    (elaborated.types.input ≡ types.input) × (elaborated.types.output ≡ types.output)

written_types : (declaration : ℕ) (types found : StreamType) (stream : Stream)
    (progress : Progress)
    → IfOk (as_written declaration (Some types) found stream progress) (HasTypes types)
written_types declaration types found stream progress =
    kept_holds (is_as_written (Some types) found) (refused.TypeMismatch declaration) _
    (HasTypes types) (λ e.
    let both = both_true (same_item types.input found.input)
    (same_item types.output found.output) e in (
      sym (items_same types.input found.input both.0),
      sym (items_same types.output found.output both.1),
    ))

pipeline_types : (declaration : ℕ) (types : StreamType) (children : List StreamType)
    (progress : Progress)
    → IfOk (pipeline_assembly declaration (Some types) children progress) (HasTypes types)
pipeline_types declaration types [] progress = tt
pipeline_types declaration types (first ∷ rest) progress =
    written_types declaration types _ _ progress

splitjoin_types : (declaration : ℕ) (types : StreamType) (children : List StreamType)
    (split : Option Split) (join : Option (List ℤ)) (progress : Progress)
    → IfOk (splitjoin_assembly declaration (Some types) children split join progress)
    (HasTypes types)
splitjoin_types declaration types [] split join progress = tt
splitjoin_types declaration types (first ∷ rest) None join progress = tt
splitjoin_types declaration types (first ∷ rest) (Some split) None progress = tt
splitjoin_types declaration types (first ∷ rest) (Some split) (Some join) progress =
    then_known (split_dealt declaration split (inputs_in progress.types)) _ (HasTypes types)
    (λ splitter splits.
    then_known (join_dealt declaration join (outputs_in progress.types)) _ (HasTypes types)
    (λ joiner joins. written_types declaration types _ _ progress))

loop_types : (declaration : ℕ) (types : StreamType) (join : Option (List ℤ)) (body : Option Stream)
    (split : Option Split) (loop : Option Stream) (progress : Progress)
    → IfOk (loop_assembly declaration (Some types) join body split loop progress) (HasTypes types)
loop_types declaration types None body split loop progress = tt
loop_types declaration types (Some join) None split loop progress = tt
loop_types declaration types (Some join) (Some body) None loop progress = tt
loop_types declaration types (Some join) (Some body) (Some split) None progress = tt
loop_types declaration types (Some join) (Some body) (Some split) (Some loop) progress =
    then_known (weighted declaration (loop_weights (input_written (Some types)) join)) _
    (HasTypes types) (λ joiner joins.
    then_known (weighted declaration (loop_splitter (output_written (Some types)) split)) _
    (HasTypes types) (λ splitter splits. written_types declaration types _ _ progress))

composite_types : (kind : CompositeKind) (declaration : ℕ) (types : StreamType)
    (progress : Progress)
    → IfOk (composite_assembly kind declaration (Some types) progress) (HasTypes types)
composite_types composite.Pipeline declaration types progress =
    pipeline_types declaration types progress.types progress
composite_types composite.Splitjoin declaration types progress =
    splitjoin_types declaration types progress.types progress.split progress.join progress
composite_types composite.Feedbackloop declaration types progress =
    loop_types declaration types progress.join progress.body progress.split progress.loop progress

declared_types : (setting : Setting) (name : List ℕ) (stream : tree.Stream) (totals : Totals)
    → IfOk (text_elaborated setting (text_of name stream) totals) (HasTypes (types_of stream))
declared_types setting name (tree.Filter input output members) totals =
    let filter : Filter = record { input = input; output = output; members = members } in
    kept_holds (nat_lt totals.filters filter_limit) refused.NodeLimit _
    (HasTypes (record { input = input; output = output })) (λ e.
    then_known (instance_of setting.place filter) _
    (HasTypes (record { input = input; output = output })) (λ resolved is.
    resolved_types setting.place.constants filter resolved
    (instance_resolved setting.place filter resolved is)))
declared_types setting name (tree.Composite types kind block) totals =
    then_ok (stmts_run setting [] 0 block (initial_progress kind totals))
    (λ progress. composite_assembly kind setting.place.declaration (Some types) progress)
    (λ progress. Unit {0}) (HasTypes types)
    (any_holds (stmts_run setting [] 0 block (initial_progress kind totals)))
    (λ progress h. composite_types kind setting.place.declaration types progress)

-- the main stream

abbrev pub IsMain : ℕ × Declaration → Type 0
IsMain found = can_be_main found.1 ≡ true

mains_are : (number : ℕ) (declarations : List Declaration)
    → AllByRecursion IsMain (mains_from number declarations)
mains_are number [] = tt
mains_are number (first ∷ others) = by_value (can_be_main first) refl
    (mains_are (number + 1) others)
  where
    by_value : (t : Bool) → can_be_main first ≡ t
        → AllByRecursion IsMain (mains_from (number + 1) others)
        → AllByRecursion IsMain (cond t ((number, first) ∷ mains_from (number + 1) others)
        (mains_from (number + 1) others))
    by_value true e later = (e, later)
    by_value false e later = later

only_is : (mains : List (ℕ × Declaration)) → AllByRecursion IsMain mains
    → IfOk (only_main mains) IsMain
only_is [] all = tt
only_is (one ∷ []) all = all.0
only_is (one ∷ other ∷ others) all = tt

named_is : (found : Option (ℕ × Declaration)) → IfOk (named_main found) IsMain
named_is None = tt
named_is (Some found) = by_value (can_be_main found.1) refl
  where
    by_value : (t : Bool) → can_be_main found.1 ≡ t
        → IfOk (cond t (Ok found) (Err refused.NoMain)) IsMain
    by_value true e = e
    by_value false e = tt

main_is : (program : List Declaration) (main : Option (List ℕ)) → IfOk (main_of program main) IsMain
main_is program None = only_is (mains_from 0 program) (mains_are 0 program)
main_is program (Some name) = named_is (declared_from 0 program name)

main_sound : (program : List Declaration) (found : ℕ × Declaration) → IsMain found
    → IfOk (main_elaborated program found) (λ elaborated. IsElaborated elaborated.stream)
unfolding level_limit
main_sound program found is = then_finish (main_elaborated program found)
    (both_ok (main_elaborated program found) IsSoundlyElaborated
    (HasTypes (types_of found.1.stream)) is_sound typed)
  where
    is_sound : IfOk (main_elaborated program found) IsSoundlyElaborated
    is_sound = stream_sound program level_limit (record { declaration = found.0; constants = [] })
        (text_of found.1.name found.1.stream) (record { turns = 0; filters = 0 })

    typed : IfOk (main_elaborated program found) (HasTypes (types_of found.1.stream))
    typed = declared_types (record {
      program = program;
      place =
          record { declaration = found.0; constants = [] };
      elaborate =
          stream_elaborated program 63;
    }) found.1.name found.1.stream
        (record { turns = 0; filters = 0 })

    closed : same_item item.Void (types_of found.1.stream).input ≡ true
        × same_item item.Void (types_of found.1.stream).output ≡ true
    closed = let both = both_true (is_as_written
        (Some (record { input = item.Void; output = item.Void }))
        (types_of found.1.stream)) (nat_eq (length (parameters_of found.1)) 0) is in
        both_true (same_item item.Void (types_of found.1.stream).input)
        (same_item item.Void (types_of found.1.stream).output) both.0

    finish : (elaborated : Elaborated) → IsSoundlyElaborated elaborated
        × HasTypes (types_of found.1.stream) elaborated
        → IsElaborated elaborated.stream
    finish elaborated h = record {
      closed = record {
        typed = h.0.typed;
        input = h.0.input ∙ h.1.0 ∙ sym (items_same item.Void
            (types_of found.1.stream).input closed.0);
        output = h.0.output ∙ h.1.1 ∙ sym (items_same item.Void
            (types_of found.1.stream).output closed.1);
      };
      instances = h.0.instances;
    }

    then_finish : (r : Result Elaborated ElabError)
        → IfOk r (λ elaborated. IsSoundlyElaborated elaborated
        × HasTypes (types_of found.1.stream) elaborated)
        → IfOk r (λ elaborated. IsElaborated elaborated.stream)
    then_finish (Ok elaborated) h = finish elaborated h
    then_finish (Err e) h = tt

-- each stream that a program means is sound
pub elaborated_is_sound : (program : List Declaration) (main : Option (List ℕ)) (stream : Stream)
    → elaborated program main ≡ Ok stream → IsElaborated stream
elaborated_is_sound program main stream e = subst (λ r. IfOk r IsElaborated) e sound
  where
    sound : IfOk (elaborated program main) IsElaborated
    sound =
        then_ok (not_doubled (doubled_from [] 0 program)) _ (λ u. Unit {0}) IsElaborated
        (any_holds (not_doubled (doubled_from [] 0 program))) (λ u h.
        then_ok (main_of program main) _ IsMain IsElaborated (main_is program main) (λ found is.
        then_ok (main_elaborated program found) _ (λ elaborated. IsElaborated elaborated.stream)
        IsElaborated
        (main_sound program found is) (λ elaborated sound. sound)))
