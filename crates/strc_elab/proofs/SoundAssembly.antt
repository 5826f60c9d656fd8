-- What is made of the parts that a composite stream's body gives is sound where they are.
use Rattle.std.proofs.Common.{◌≡◌, ℕ, ℤ, List, [], ◌∷◌, ◌++◌, Option, Some, None, Ok, IfOk, refl}
use Rattle.std.proofs.Common.{sym, subst}
use Rattle.std.specs.List.{AllByRecursion}
use Rattle.strc_parse_tree.specs.declared.tree.StreamType.{StreamType}
use Rattle.strc_parse_tree.specs.declared.tree.CompositeKind.{CompositeKind}
use Rattle.strc_parse_tree.specs.declared.tree.CompositeKind.TheVariants as composite
use Rattle.strc_elab_graph.specs.Graphs as graphs
use Rattle.strc_elab_graph.specs.Graphs.{SplitterCode}
use Rattle.strc_elab_stream.specs.Flattening.{nodes_of, row_nodes, splitter_nodes, joiner_nodes}
use Rattle.strc_elab_stream.specs.Instances.{Stream, in_a_row}
use Rattle.strc_elab_stream.specs.Instances as instance
use Rattle.strc_elab_stream.specs.Types.{IsWellTyped, HasFirst, PassesItems, IsSplit, IsJoined}
use Rattle.strc_elab_stream.specs.Types.{input_of}
use Rattle.strc_elab_stream.specs.Types.{output_of}
use Rattle.strc_elab_statements.specs.declared.error.ElabErrorKind.TheVariants as refused
use Rattle.strc_elab.specs.Elaboration.{Progress, Elaborated, as_written}
use Rattle.strc_elab_statements.specs.Written.{is_as_written}
use Rattle.strc_elab.specs.Elaboration.{pipeline_assembly, splitjoin_assembly, loop_assembly}
use Rattle.strc_elab.specs.Elaboration.{composite_assembly}
use Rattle.strc_elab_statements.specs.Sides.{last_given, inputs_in, outputs_in, any_side}
use Rattle.strc_elab.specs.Sound.{IsInstance}
use Rattle.strc_elab_statements.specs.Weights.{Split, weighted, split_dealt, join_dealt}
use Rattle.strc_elab_statements.specs.Weights.{input_written}
use Rattle.strc_elab_statements.specs.Weights.{output_written, loop_weights, loop_splitter}
use Rattle.strc_elab.proofs.Steps.{then_known, kept_holds}
use Rattle.strc_elab.proofs.SoundRows.{IsSoundStream, AreSound, InARow, append_instances}
use Rattle.strc_elab.proofs.SoundRows.{row_instances, row_typed, row_gives, each_typed, inputs_are}
use Rattle.strc_elab.proofs.SoundRows.{outputs_are}
use Rattle.strc_elab_statements.proofs.WeightsMeet.{split_is, join_is, loop_joins, loop_splits}
use Rattle.strc_elab_statements.proofs.WeightsMeet.{weighted_is}

-- body or loop of a feedback loop, where there is one
abbrev pub IsPart : Option Stream → Type 0
IsPart None = Unit {0}
IsPart (Some stream) = PassesItems stream × IsWellTyped stream
    × AllByRecursion IsInstance (nodes_of stream)

-- what a body of this kind has given so far
pub record AreParts (kind held : CompositeKind) (streams : List Stream) (types : List StreamType)
    (inner back : Option Stream) : Type 0 where
  pub is_kind : held ≡ kind
  pub children : AreSound streams types
  pub row : kind ≡ composite.Pipeline → InARow types
  pub body : IsPart inner
  pub loop : IsPart back

abbrev pub IsSound : CompositeKind → Progress → Type 0
IsSound kind progress = AreParts kind progress.kind progress.children progress.types progress.body
    progress.loop

abbrev pub IsSoundlyElaborated : Elaborated → Type 0
IsSoundlyElaborated elaborated = IsSoundStream elaborated.stream elaborated.types

written_sound : (declaration : ℕ) (written : Option StreamType) (found : StreamType)
    (stream : Stream) (progress : Progress) → IsSoundStream stream found
    → IfOk (as_written declaration written found stream progress) IsSoundlyElaborated
written_sound declaration written found stream progress sound =
    kept_holds (is_as_written written found) (refused.TypeMismatch declaration) _
    IsSoundlyElaborated
    (λ e. sound)

-- pipelines
pipeline_sound : (declaration : ℕ) (written : Option StreamType) (types : List StreamType)
    (progress : Progress) → AreSound progress.children types → InARow types
    → IfOk (pipeline_assembly declaration written types progress) IsSoundlyElaborated
pipeline_sound declaration written [] progress sound row = tt
pipeline_sound declaration written (first ∷ rest) progress sound row =
    written_sound declaration written found (instance.Pipeline (in_a_row progress.children))
    progress
    (by_children progress.children sound)
  where
    found : StreamType
    found = record { input = first.input; output = last_given first.output rest }

    by_children : (children : List Stream) → AreSound children (first ∷ rest)
        → IsSoundStream (instance.Pipeline (in_a_row children)) found
    by_children [] sound = absurd sound
    by_children (one ∷ others) sound = record {
      typed = (tt, row_typed (one ∷ others) (first ∷ rest) sound row);
      input = sound.0.input;
      output = row_gives (output_of one) others first.output rest sound.1 sound.0.output;
      instances = row_instances (one ∷ others) (first ∷ rest) sound;
    }

-- split-joins
filled : (children : List Stream) (types : List StreamType) (first : StreamType)
    (rest : List StreamType) → AreSound children types → first ∷ rest ≡ types
    → HasFirst (in_a_row children)
filled [] types first rest sound e = absurd (subst (AreSound []) (sym e) sound)
filled (one ∷ others) types first rest sound e = tt

splitter_instance : (splitter : Option SplitterCode)
    → AllByRecursion IsInstance (splitter_nodes splitter)
splitter_instance None = tt
splitter_instance (Some splitter) = (tt, tt)

joiner_instance : (joiner : Option (List ℕ)) → AllByRecursion IsInstance (joiner_nodes joiner)
joiner_instance None = tt
joiner_instance (Some joiner) = (tt, tt)

splitjoin_sound : (declaration : ℕ) (written : Option StreamType) (types : List StreamType)
    (split : Option Split) (join : Option (List ℤ)) (progress : Progress)
    → AreSound progress.children progress.types → types ≡ progress.types
    → IfOk (splitjoin_assembly declaration written types split join progress) IsSoundlyElaborated
splitjoin_sound declaration written [] split join progress sound is = tt
splitjoin_sound declaration written (first ∷ rest) None join progress sound is = tt
splitjoin_sound declaration written (first ∷ rest) (Some split) None progress sound is = tt
splitjoin_sound declaration written (first ∷ rest) (Some split) (Some join) progress sound is =
    then_known (split_dealt declaration split (inputs_in progress.types)) _ IsSoundlyElaborated
    (λ splitter splits.
    then_known (join_dealt declaration join (outputs_in progress.types)) _ IsSoundlyElaborated
    (λ joiner joins.
    written_sound declaration written (record {
      input = any_side (inputs_in progress.types);
      output = any_side (outputs_in progress.types);
    })
    (instance.SplitJoin splitter (in_a_row progress.children) joiner) progress
    (whole splitter joiner splits joins)))
  where
    whole : (splitter : Option SplitterCode) (joiner : Option (List ℕ))
        → split_dealt declaration split (inputs_in progress.types) ≡ Ok splitter
        → join_dealt declaration join (outputs_in progress.types) ≡ Ok joiner
        → IsSoundStream (instance.SplitJoin splitter (in_a_row progress.children) joiner)
        (record {
          input = any_side (inputs_in progress.types);
          output = any_side (outputs_in progress.types);
        })
    whole splitter joiner splits joins =
        let s = split_is declaration split (inputs_in progress.types) splitter splits in
        let j = join_is declaration join (outputs_in progress.types) joiner joins in
        record {
          typed = (
            filled progress.children progress.types first rest sound is,
            each_typed progress.children progress.types sound,
            subst (IsSplit splitter) (inputs_are progress.children progress.types sound) s.0,
            subst (IsJoined joiner) (outputs_are progress.children progress.types sound) j.0,
          );
          input = s.1;
          output = j.1;
          instances = append_instances
              (splitter_nodes splitter ++ row_nodes (in_a_row progress.children))
              (joiner_nodes joiner)
              (append_instances (splitter_nodes splitter) (row_nodes (in_a_row progress.children))
              (splitter_instance splitter)
              (row_instances progress.children progress.types sound))
              (joiner_instance joiner);
        }

-- feedback loops
loop_sound : (declaration : ℕ) (written : Option StreamType) (join : Option (List ℤ))
    (body : Option Stream) (split : Option Split) (loop : Option Stream) (progress : Progress)
    → IsPart body → IsPart loop
    → IfOk (loop_assembly declaration written join body split loop progress) IsSoundlyElaborated
loop_sound declaration written None body split loop progress held back = tt
loop_sound declaration written (Some join) None split loop progress held back = tt
loop_sound declaration written (Some join) (Some body) None loop progress held back = tt
loop_sound declaration written (Some join) (Some body) (Some split) None progress held back = tt
loop_sound declaration written (Some join) (Some body) (Some split) (Some loop) progress held back =
    then_known (weighted declaration (loop_weights (input_written written) join)) _
    IsSoundlyElaborated
    (λ joiner joins.
    then_known (weighted declaration (loop_splitter (output_written written) split)) _
    IsSoundlyElaborated
    (λ splitter splits.
    let stream = instance.FeedbackLoop joiner body splitter loop progress.enqueued in
    written_sound declaration written
    (record { input = input_of stream; output = output_of stream }) stream progress (record {
      typed = (
        loop_joins (input_written written) join joiner
            (weighted_is declaration (loop_weights (input_written written) join) joiner joins),
        loop_splits (output_written written) split splitter
            (weighted_is declaration (loop_splitter (output_written written) split) splitter
            splits),
        held.0,
        held.1,
        back.0,
        back.1,
      );
      input = refl;
      output = refl;
      instances = (
        tt,
        append_instances (nodes_of body)
            (graphs.Splitter splitter ∷ nodes_of loop) held.2 (tt, back.2),
      );
    })))

-- whatever kind it is
pub composite_sound : (kind : CompositeKind) (declaration : ℕ) (written : Option StreamType)
    (progress : Progress) → IsSound kind progress
    → IfOk (composite_assembly kind declaration written progress) IsSoundlyElaborated
composite_sound composite.Pipeline declaration written progress sound =
    pipeline_sound declaration written progress.types progress sound.children (sound.row refl)
composite_sound composite.Splitjoin declaration written progress sound =
    splitjoin_sound declaration written progress.types progress.split progress.join progress
    sound.children refl
composite_sound composite.Feedbackloop declaration written progress sound =
    loop_sound declaration written progress.join progress.body progress.split progress.loop progress
    sound.body sound.loop
