-- The groups of a stream's nodes, which a cut into stages doesn't part: an outermost feedback loop
-- is a group; so is each other node.
use Rattle.std.specs.Prelude.{ℕ, zero, suc, ◌+◌, List, [], ◌∷◌, ◌++◌, length, Option, Some, None}
use Rattle.strc_elab_dataflow.specs.Streams.{Stream, Stream.One, Stream.Reader, Stream.Pipeline}
use Rattle.strc_elab_dataflow.specs.Streams.{Stream.SplitJoin, Stream.FeedbackLoop, Streams}
use Rattle.strc_elab_dataflow.specs.Streams.{Streams.Last, Streams.More, layout}

unfoldable pub maybe_group : {Code : Type 0} → Option Code → List ℕ
maybe_group (Some code) = 1 ∷ []
maybe_group None = []

-- How many nodes each group has, in preorder.
unfoldable mutual
  pub groups : {Code : Type 0} → Stream Code → List ℕ
  groups (One code) = 1 ∷ []
  groups (Reader code) = 1 ∷ []
  groups (Pipeline streams) = groups_of streams
  groups (SplitJoin splitter streams joiner) =
      maybe_group splitter ++ (groups_of streams ++ maybe_group joiner)
  groups (FeedbackLoop joiner body splitter loop enqueued) =
      length (layout (FeedbackLoop joiner body splitter loop enqueued)).codes ∷ []

  pub groups_of : {Code : Type 0} → Streams Code → List ℕ
  groups_of (Last stream) = groups stream
  groups_of (More stream streams) = groups stream ++ groups_of streams

-- The number of the first node after so many groups.
unfoldable pub group_bound : (sizes : List ℕ) → ℕ → ℕ
group_bound sizes zero = 0
group_bound [] (suc i) = 0
group_bound (size ∷ sizes) (suc i) = size + group_bound sizes i
