-- The layout of a stream has sources for each of its nodes.
use Rattle.std.proofs.Common.{◌≡◌, refl, ℕ, suc, ◌+◌, List, length, arith}
use Rattle.std.proofs.Common.{Option, Some, None, ℤ, length-append}
use Rattle.strc_elab_dataflow.specs.Flat.{Source}
use Rattle.strc_elab_dataflow.specs.Streams.{Stream, Stream.One, Stream.Reader, Stream.Pipeline}
use Rattle.strc_elab_dataflow.specs.Streams.{Stream.SplitJoin, Stream.FeedbackLoop, Streams}
use Rattle.strc_elab_dataflow.specs.Streams.{Streams.Last, Streams.More, Layout, source_at_0}
use Rattle.strc_elab_dataflow.specs.Streams.{delayed, prepend, node_layout, maybe_layout}
use Rattle.strc_elab_dataflow.specs.Streams.{chained_layout}
use Rattle.strc_elab_dataflow.specs.Streams.{beside_layout, fed_back_layout, layout}
use Rattle.strc_elab_dataflow.specs.Streams.{pipeline_layout}
use Rattle.strc_elab_dataflow.specs.Streams.{branch_layout}

module _ {Code : Type 0} where
  abbrev pub HasEach : Layout Code → Type 0
  HasEach part = (first : ℕ) (before : ℕ → Source)
      → length (part.sources first before) ≡ length part.codes

  node_each : (code : Code) → HasEach (node_layout code)
  unfolding node_layout
  node_each code = λ first before. refl

  maybe_each : (code : Option Code) → HasEach (maybe_layout code)
  unfolding maybe_layout
  maybe_each (Some code) = node_each code
  maybe_each None = λ first before. refl

  chained_each : (a b : Layout Code) → HasEach a → HasEach b → HasEach (chained_layout a b)
  unfolding chained_layout
  chained_each a b is_a is_b = λ first before. omega (
    arith,
    length-append (a.sources first before) (b.sources (first + length a.codes) (a.outlet first)),
    length-append a.codes b.codes,
    is_a first before,
    is_b (first + length a.codes) (a.outlet first),
  )

  beside_each : (a b : Layout Code) → HasEach a → HasEach b → HasEach (beside_layout a b)
  unfolding beside_layout
  beside_each a b is_a is_b = λ first before. omega (
    arith,
    length-append (a.sources first (source_at_0 (before 0)))
        (b.sources (first + length a.codes) (λ port. before (suc port))),
    length-append a.codes b.codes,
    is_a first (source_at_0 (before 0)),
    is_b (first + length a.codes) (λ port. before (suc port)),
  )

  fed_back_each : (a b : Layout Code) (enqueued : List ℤ) → HasEach a → HasEach b
      → HasEach (fed_back_layout a b enqueued)
  unfolding fed_back_layout
  fed_back_each a b enqueued is_a is_b = λ first before.
      let second = first + length a.codes in
      let into = prepend (before 0)
      (source_at_0 (delayed enqueued (b.outlet second 0))) in
      omega (
        arith,
        length-append (a.sources first into) (b.sources second (source_at_0 (a.outlet first 1))),
        length-append a.codes b.codes,
        is_a first into,
        is_b second (source_at_0 (a.outlet first 1)),
      )

  mutual
    unfolding layout node_layout

    pub stream_each : (stream : Stream Code) → HasEach (layout stream)
    stream_each (One code) = node_each code
    stream_each (Reader code) = λ first before. refl
    stream_each (Pipeline streams) = pipeline_each streams
    stream_each (SplitJoin splitter streams joiner) =
        chained_each (maybe_layout splitter)
        (chained_layout (branch_layout streams) (maybe_layout joiner)) (maybe_each splitter)
        (chained_each (branch_layout streams) (maybe_layout joiner) (branch_each streams)
        (maybe_each joiner))
    stream_each (FeedbackLoop joiner body splitter loop enqueued) =
        fed_back_each (chained_layout (node_layout joiner)
        (chained_layout (layout body) (node_layout splitter))) (layout loop) enqueued
        (chained_each (node_layout joiner) (chained_layout (layout body) (node_layout splitter))
        (node_each joiner)
        (chained_each (layout body) (node_layout splitter) (stream_each body)
        (node_each splitter)))
        (stream_each loop)

    pipeline_each : (streams : Streams Code) → HasEach (pipeline_layout streams)
    pipeline_each (Last stream) = stream_each stream
    pipeline_each (More stream streams) =
        chained_each (layout stream) (pipeline_layout streams) (stream_each stream)
        (pipeline_each streams)

    branch_each : (streams : Streams Code) → HasEach (branch_layout streams)
    branch_each (Last stream) =
        beside_each (layout stream) (maybe_layout None) (stream_each stream) (maybe_each None)
    branch_each (More stream streams) =
        beside_each (layout stream) (branch_layout streams) (stream_each stream)
        (branch_each streams)
