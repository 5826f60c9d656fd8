-- A stream of instances: what a program's text becomes when its composite streams have run
-- (StreamIt specification 2.1, "Streams").
use Rattle.std.specs.Prelude.{ℕ, ℤ, List, [], ◌∷◌, Option}
use Rattle.strc_work_meaning.specs.Filters as filters
use Rattle.strc_elab_graph.specs.Graphs.{SplitterCode}

-- a stream, and streams in a row
mutual
  pub data Stream : Type 0 where
    -- a filter with its constants substituted, by its declared name; an anonymous one has none
    Filter : (name : Option (List ℕ)) (filter : filters.Filter) → Stream
    Identity : Stream
    FileReader : (text : List ℕ) → Stream
    FileWriter : (text : List ℕ) → Stream
    Pipeline : (children : Streams) → Stream
    -- one whose input is void has no splitter, and one whose output is void has no joiner
    SplitJoin : (splitter : Option SplitterCode) (children : Streams) (joiner : Option (List ℕ))
        → Stream
    -- the items are enqueued on the channel from the loop to the joiner
    FeedbackLoop : (joiner : List ℕ) (body : Stream) (splitter : SplitterCode) (loop : Stream)
        (enqueued : List ℤ) → Stream

  pub data Streams : Type 0 where
    Done : Streams
    More : (first : Stream) (rest : Streams) → Streams

-- streams in a row, from a list of them
abbrev pub in_a_row : List Stream → Streams
in_a_row [] = Done
in_a_row (first ∷ rest) = More first (in_a_row rest)
