-- A layout has the sources of as many nodes as it has codes.
use Rattle.std.proofs.Common.{◌≡◌, ℕ, ◌+◌, List, ◌++◌, length, Option, Some, None, refl, arith}
use Rattle.std.proofs.lemmas.List.{length-append}
use Rattle.strc_elab_dataflow.specs.Flat.{Source}
use Rattle.strc_elab_dataflow.specs.Streams.{Stream, Streams, One, Reader, Pipeline, SplitJoin}
use Rattle.strc_elab_dataflow.specs.Streams.{FeedbackLoop, Last, More, Layout, layout}
use Rattle.strc_elab_dataflow.specs.Streams.{pipeline_layout}
use Rattle.strc_elab_dataflow.specs.Streams.{branch_layout, node_layout, maybe_layout}
use Rattle.strc_elab_dataflow.specs.Streams.{chained_layout}
use Rattle.strc_elab_dataflow.specs.Streams.{beside_layout, fed_back_layout, source_at_0}

abbrev pub HasSources : {Code : Type 0} → Layout Code → Type 0
HasSources l = (first : ℕ) (before : ℕ → Source) → length (l.sources first before) ≡ length l.codes

both_lengths : {A B : Type 0} (xs more_xs : List A) (ys more_ys : List B) → length xs ≡ length ys
    → length more_xs ≡ length more_ys → length (xs ++ more_xs) ≡ length (ys ++ more_ys)
both_lengths xs more_xs ys more_ys h k =
    let e = length-append xs more_xs in
    let f = length-append ys more_ys in
    omega arith

module _ {Code : Type 0} where
  pub node_sources : (code : Code) → HasSources (node_layout code)
  unfolding node_layout
  node_sources code first before = refl

  pub maybe_sources : (code : Option Code) → HasSources (maybe_layout code)
  unfolding maybe_layout
  maybe_sources (Some code) first before = node_sources code first before
  maybe_sources None first before = refl

  pub chained_sources : (a b : Layout Code) → HasSources a → HasSources b
      → HasSources (chained_layout a b)
  unfolding chained_layout
  chained_sources a b has_a has_b first before =
      both_lengths (a.sources first before) (b.sources (first + length a.codes) (a.outlet first))
      a.codes b.codes (has_a first before) (has_b (first + length a.codes) (a.outlet first))

  pub beside_sources : (a b : Layout Code) → HasSources a → HasSources b
      → HasSources (beside_layout a b)
  unfolding beside_layout
  beside_sources a b has_a has_b first before =
      both_lengths (a.sources first (source_at_0 (before 0))) _ a.codes b.codes
      (has_a first (source_at_0 (before 0))) (has_b (first + length a.codes) _)

  pub fed_back_sources : (body loop : Layout Code) (enqueued : List _) → HasSources body
      → HasSources loop → HasSources (fed_back_layout body loop enqueued)
  unfolding fed_back_layout
  fed_back_sources body loop enqueued has_body has_loop first before =
      both_lengths _ _ body.codes loop.codes (has_body first _)
      (has_loop (first + length body.codes) _)

mutual
  unfolding layout pipeline_layout branch_layout node_layout

  pub layout_sources : {Code : Type 0} (stream : Stream Code) → HasSources (layout stream)
  layout_sources (One code) first before = node_sources code first before
  layout_sources (Reader code) first before = refl
  layout_sources (Pipeline streams) first before = pipeline_sources streams first before
  layout_sources (SplitJoin splitter streams joiner) first before =
      chained_sources (maybe_layout splitter)
      (chained_layout (branch_layout streams) (maybe_layout joiner)) (maybe_sources splitter)
      (chained_sources (branch_layout streams) (maybe_layout joiner) (branch_sources streams)
      (maybe_sources joiner)) first before
  layout_sources (FeedbackLoop joiner body splitter loop enqueued) first before =
      fed_back_sources (chained_layout (node_layout joiner)
      (chained_layout (layout body) (node_layout splitter))) (layout loop) enqueued
      (chained_sources (node_layout joiner) (chained_layout (layout body) (node_layout splitter))
      (node_sources joiner) (chained_sources (layout body) (node_layout splitter)
      (layout_sources body) (node_sources splitter)))
      (layout_sources loop) first before

  pipeline_sources : {Code : Type 0} (streams : Streams Code) → HasSources (pipeline_layout streams)
  pipeline_sources (Last stream) = layout_sources stream
  pipeline_sources (More stream streams) =
      chained_sources (layout stream) (pipeline_layout streams) (layout_sources stream)
      (pipeline_sources streams)

  pub branch_sources : {Code : Type 0} (streams : Streams Code) → HasSources (branch_layout streams)
  branch_sources (Last stream) = beside_sources (layout stream) (maybe_layout None)
      (layout_sources stream) (maybe_sources None)
  branch_sources (More stream streams) =
      beside_sources (layout stream) (branch_layout streams) (layout_sources stream)
      (branch_sources streams)
