-- What is made of a body that has run, from its parts.
use Rattle.std.proofs.Common.{◌≡◌, ℕ, ℤ, true, false, List, [], ◌∷◌, length, Option, Some, None}
use Rattle.std.proofs.Common.{is_some, option_map, Result, Ok, Err, Vec, Box, Global, refl, ap, ◌∙◌}
use Rattle.std.proofs.Common.{sym}
use Rattle.strc_parse_tree.specs.declared.tree.ItemType.{ItemType}
use Rattle.strc_parse_tree.specs.declared.tree.StreamType.{StreamType}
use Rattle.strc_elab_graph.specs.Graphs.{SplitterCode}
use Rattle.strc_elab_stream.specs.Instances as instances
use Rattle.strc_elab_stream.specs.Instances.{in_a_row}
use Rattle.strc_elab_stream.specs.Types.{input_of, output_of}
use Rattle.strc_elab_stream.specs.View.{stream_view}
use Rattle.strc_elab_stream.specs.declared.stream.Stream.{Stream}
use Rattle.strc_elab_statements.specs.Answers.{IsRefusal}
use Rattle.strc_elab_statements.specs.declared.error.ElabError.{ElabError}
use Rattle.strc_elab_statements.specs.declared.error.ElabErrorKind.TheVariants as refused
use Rattle.strc_elab.specs.Answering.{join_view, part_view}
use Rattle.strc_elab_statements.specs.Splits.{split_view}
use Rattle.strc_elab.specs.Elaboration as spec
use Rattle.strc_elab.specs.Elaboration.{where_kept, loop_assembly, splitjoin_assembly}
use Rattle.strc_elab_statements.specs.Written.{is_as_written}
use Rattle.strc_elab_statements.specs.Sides.{any_side, inputs_in, outputs_in}
use Rattle.strc_elab.specs.Assembly.{elaborated_as}
use Rattle.strc_elab_statements.specs.Weights as weights
use Rattle.strc_elab_statements.specs.Weights.{weighted, loop_weights, loop_splitter, input_written}
use Rattle.strc_elab_statements.specs.Weights.{output_written, split_dealt, join_dealt}
use Rattle.strc_elab_statements.specs.declared.weights.Split.{Split}
use Rattle.strc_elab_statements.proofs.Refusals.{first_refused, second_refused, both_done}
use Rattle.strc_elab_statements.proofs.Refusals.{then_done, refused_same}

-- split-joins
pub splitjoin_done : (declaration : ℕ) (written : Option StreamType) (types : List StreamType)
    (split : Option weights.Split) (join : Option (List ℤ)) (p : spec.Progress) (s : weights.Split)
    (j : List ℤ) (splitter : Option SplitterCode) (joiner : Option (List ℕ))
    (input output : ItemType)
    → (length types ≡ 0 → ⊥) → split ≡ Some s → join ≡ Some j
    → split_dealt declaration s (inputs_in p.types) ≡ Ok splitter
    → join_dealt declaration j (outputs_in p.types) ≡ Ok joiner
    → input ≡ any_side (inputs_in p.types) → output ≡ any_side (outputs_in p.types)
    → is_as_written written (record { input = input; output = output }) ≡ true
    → splitjoin_assembly declaration written types split join p
    ≡ Ok (elaborated_as (record { input = input; output = output })
    (instances.SplitJoin splitter (in_a_row p.children) joiner) p)
splitjoin_done declaration written [] split join p s j splitter joiner input output some split_is
    join_is splits joins input_is output_is kept = absurd (some refl)
splitjoin_done declaration written (first ∷ rest) split join p s j splitter joiner input output some
    split_is join_is splits joins input_is output_is kept =
    ap (λ x. splitjoin_assembly declaration written (first ∷ rest) x join p) split_is
    ∙ ap (λ x. splitjoin_assembly declaration written (first ∷ rest) (Some s) x p) join_is
    ∙ both_done (split_dealt declaration s (inputs_in p.types)) _ splitter _ splits
    (both_done (join_dealt declaration j (outputs_in p.types)) _ joiner _ joins
    (ap (λ i. as_elaborated i (any_side (outputs_in p.types))) (sym input_is)
    ∙ ap (as_elaborated input) (sym output_is)
    ∙ ap (λ b. where_kept b (refused.TypeMismatch declaration)
    (Ok (elaborated_as (record { input = input; output = output })
    (instances.SplitJoin splitter (in_a_row p.children) joiner) p))) kept))
  where
    as_elaborated : ItemType → ItemType → Result spec.Elaborated ElabError
    as_elaborated i o = where_kept (is_as_written written (record { input = i; output = o }))
        (refused.TypeMismatch declaration)
        (Ok (elaborated_as (record { input = i; output = o })
        (instances.SplitJoin splitter (in_a_row p.children) joiner) p))

-- whose `split` has weights that aren't allowed
pub splits_refused : (declaration : ℕ) (written : Option StreamType) (types : List StreamType)
    (split : Option weights.Split) (join : Option (List ℤ)) (p : spec.Progress) (s : weights.Split)
    (j : List ℤ) (e : ElabError) → (length types ≡ 0 → ⊥) → split ≡ Some s → join ≡ Some j
    → IsRefusal (split_dealt declaration s (inputs_in p.types)) e
    → IsRefusal (splitjoin_assembly declaration written types split join p) e
splits_refused declaration written [] split join p s j e some split_is join_is h =
    absurd (some refl)
splits_refused declaration written (first ∷ rest) split join p s j e some split_is join_is h =
    refused_same (splitjoin_assembly declaration written (first ∷ rest) (Some s) (Some j) p)
    (splitjoin_assembly declaration written (first ∷ rest) split join p) e
    (ap (λ x. splitjoin_assembly declaration written (first ∷ rest) x join p) split_is
    ∙ ap (λ x. splitjoin_assembly declaration written (first ∷ rest) (Some s) x p) join_is)
    (first_refused (split_dealt declaration s (inputs_in p.types)) _ e h)

-- whose `join` has weights that aren't allowed
pub joins_refused : (declaration : ℕ) (written : Option StreamType) (types : List StreamType)
    (split : Option weights.Split) (join : Option (List ℤ)) (p : spec.Progress) (s : weights.Split)
    (j : List ℤ) (splitter : Option SplitterCode) (e : ElabError)
    → (length types ≡ 0 → ⊥) → split ≡ Some s → join ≡ Some j
    → split_dealt declaration s (inputs_in p.types) ≡ Ok splitter
    → IsRefusal (join_dealt declaration j (outputs_in p.types)) e
    → IsRefusal (splitjoin_assembly declaration written types split join p) e
joins_refused declaration written [] split join p s j splitter e some split_is join_is splits h =
    absurd (some refl)
joins_refused declaration written (first ∷ rest) split join p s j splitter e some split_is join_is
    splits h =
    refused_same (splitjoin_assembly declaration written (first ∷ rest) (Some s) (Some j) p)
    (splitjoin_assembly declaration written (first ∷ rest) split join p) e
    (ap (λ x. splitjoin_assembly declaration written (first ∷ rest) x join p) split_is
    ∙ ap (λ x. splitjoin_assembly declaration written (first ∷ rest) (Some s) x p) join_is)
    (second_refused (split_dealt declaration s (inputs_in p.types)) _ splitter e splits
    (first_refused (join_dealt declaration j (outputs_in p.types)) _ e h))

-- feedback loops

-- one of which each part is there
pub record LoopStarts (declaration : ℕ) (written : Option StreamType)
    (join : Option (Vec ℤ Global)) (body : Option (Box Stream Global)) (split : Option Split)
    (loop : Option (Box Stream Global)) (p : spec.Progress) (j : Vec ℤ Global) (s : Split)
    : Type 0 where
  pub inner : instances.Stream
  pub back : instances.Stream
  pub starts : loop_assembly declaration written (join_view join) (part_view body)
      (option_map split_view split) (part_view loop) p
      ≡ loop_assembly declaration written (Some j.items) (Some inner) (Some (split_view s))
      (Some back)
      p

pub loop_starts : (declaration : ℕ) (written : Option StreamType)
    (join : Option (Vec ℤ Global)) (body : Option (Box Stream Global)) (split : Option Split)
    (loop : Option (Box Stream Global)) (p : spec.Progress) (j : Vec ℤ Global) (s : Split)
    → join ≡ Some j → split ≡ Some s → is_some body ≡ true → is_some loop ≡ true
    → LoopStarts declaration written join body split loop p j s
loop_starts declaration written join None split loop p j s join_is split_is held back = absurd (cc)
loop_starts declaration written join (Some b) split None p j s join_is split_is held back =
    absurd (cc)
loop_starts declaration written join (Some b) split (Some l) p j s join_is split_is held back =
    record {
      inner = stream_view b.value;
      back = stream_view l.value;
      starts = ap (λ x. loop_assembly declaration written (join_view x) (Some (stream_view b.value))
          (option_map split_view split) (Some (stream_view l.value)) p) join_is
          ∙ ap (λ x. loop_assembly declaration written (Some j.items) (Some (stream_view b.value))
          (option_map split_view x) (Some (stream_view l.value)) p) split_is;
    }

pub joiner_refused : (declaration : ℕ) (written : Option StreamType) (j : List ℤ)
    (body loop : instances.Stream) (s : weights.Split) (p : spec.Progress) (e : ElabError)
    → IsRefusal (weighted declaration (loop_weights (input_written written) j)) e
    → IsRefusal (loop_assembly declaration written (Some j) (Some body) (Some s) (Some loop) p) e
joiner_refused declaration written j body loop s p e h =
    first_refused (weighted declaration (loop_weights (input_written written) j)) _ e h

pub splitter_refused : (declaration : ℕ) (written : Option StreamType) (j : List ℤ)
    (body loop : instances.Stream) (s : weights.Split) (p : spec.Progress) (joiner : List ℕ)
    (e : ElabError) → weighted declaration (loop_weights (input_written written) j) ≡ Ok joiner
    → IsRefusal (weighted declaration (loop_splitter (output_written written) s)) e
    → IsRefusal (loop_assembly declaration written (Some j) (Some body) (Some s) (Some loop) p) e
splitter_refused declaration written j body loop s p joiner e joins h =
    second_refused (weighted declaration (loop_weights (input_written written) j)) _ joiner e joins
    (first_refused (weighted declaration (loop_splitter (output_written written) s)) _ e h)

-- one whose type isn't the written one
pub types_refused : (declaration : ℕ) (written : Option StreamType) (j : List ℤ)
    (body loop : instances.Stream) (s : weights.Split) (p : spec.Progress) (joiner : List ℕ)
    (splitter : SplitterCode) (found : StreamType)
    → weighted declaration (loop_weights (input_written written) j) ≡ Ok joiner
    → weighted declaration (loop_splitter (output_written written) s) ≡ Ok splitter
    → found.input
    ≡ input_of (instances.FeedbackLoop joiner body splitter loop p.enqueued)
    → found.output
    ≡ output_of (instances.FeedbackLoop joiner body splitter loop p.enqueued)
    → is_as_written written found ≡ false
    → loop_assembly declaration written (Some j) (Some body) (Some s) (Some loop) p
    ≡ Err (refused.TypeMismatch declaration)
types_refused declaration written j body loop s p joiner splitter found joins splits input_is
    output_is differs =
    let stream = instances.FeedbackLoop joiner body splitter loop p.enqueued in
    then_done (weighted declaration (loop_weights (input_written written) j)) _ joiner _ joins
    (then_done (weighted declaration (loop_splitter (output_written written) s)) _ splitter _ splits
    (ap (λ (t : StreamType). where_kept (is_as_written written t)
    (refused.TypeMismatch declaration) (Ok (elaborated_as t stream p)))
    (types_are (input_of stream) (output_of stream) input_is output_is)
    ∙ ap (λ b. where_kept b (refused.TypeMismatch declaration) (Ok (elaborated_as found stream p)))
    differs))
  where
    types_are : (i o : ItemType) → found.input ≡ i → found.output ≡ o
        → ◌≡◌ {A = StreamType} (record { input = i; output = o }) found
    types_are i o input_is output_is =
        ap (λ x. record { input = x; output = o }) (sym input_is)
        ∙ ap (λ x. record { input = found.input; output = x }) (sym output_is)
