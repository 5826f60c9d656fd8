-- What reads the program's input has it for its source.
use Rattle.std.proofs.Common.{◌≡◌, ℕ, suc, ◌+◌, List, ◌∷◌, ◌++◌, length, Some, None}
use Rattle.std.proofs.Common.{Option, subst, arith}
use Rattle.strc_elab_dataflow.specs.Flat.{Source}
use Rattle.strc_elab_graph.specs.FlatGraphs.{program_input}
use Rattle.strc_elab_graph.specs.Graphs as graphs
use Rattle.strc_elab_graph.specs.Graphs.{NodeCode, SplitterCode}
use Rattle.strc_elab_stream.specs.Instances.{Stream, Streams, Filter, Identity, FileReader}
use Rattle.strc_elab_stream.specs.Instances.{FileWriter}
use Rattle.strc_elab_stream.specs.Instances.{Pipeline, SplitJoin, FeedbackLoop, Done, More}
use Rattle.strc_elab_stream.specs.Flattening.{nodes_of, row_nodes, size_of, splitter_nodes}
use Rattle.strc_elab_stream.specs.Flattening.{joiner_nodes}
use Rattle.strc_elab_stream.proofs.Numbered.{Numbered, join}
use Rattle.strc_elab_stream.proofs.Placed.{Placed, PlacedRow, PlacedBranches}

module _ (nodes : List NodeCode) (source : ℕ → ℕ → Source) where
  abbrev pub IsReader : ℕ → NodeCode → Type 0
  IsReader number code =
      (text : List ℕ) → code ≡ graphs.FileReader text → source number 0 ≡ program_input

  no_splitter : (splitter : Option SplitterCode) (first : ℕ)
      → Numbered IsReader first (splitter_nodes splitter)
  no_splitter None first = tt
  no_splitter (Some splitter) first = (λ text is. absurd (cc), tt)

  no_joiner : (joiner : Option (List ℕ)) (first : ℕ)
      → Numbered IsReader first (joiner_nodes joiner)
  no_joiner None first = tt
  no_joiner (Some weights) first = (λ text is. absurd (cc), tt)

  mutual
    pub readers : (stream : Stream) (first : ℕ) (before : Source)
        → Placed nodes source first before stream → Numbered IsReader first (nodes_of stream)
    readers (Filter name filter) first before at = (λ text is. absurd (cc), tt)
    readers Identity first before at = (λ text is. absurd (cc), tt)
    readers (FileReader text) first before at = (λ given is. at.1, tt)
    readers (FileWriter text) first before at = (λ given is. absurd (cc), tt)
    readers (Pipeline children) first before at = row_readers children first before at
    readers (SplitJoin splitter children joiner) first before at =
        join IsReader (splitter_nodes splitter ++ row_nodes children) (joiner_nodes joiner) first
        (join IsReader (splitter_nodes splitter) (row_nodes children) first
        (no_splitter splitter first)
        (branch_readers children (first + length (splitter_nodes splitter)) _ at.1))
        (no_joiner joiner _)
    readers (FeedbackLoop joiner body splitter loop enqueued) first before at =
        let split = first + 1 + size_of body in
        let second = first + 2 + size_of body in
        let next : first + 1 ≡ suc first = omega arith in
        let to_split : split ≡ first + suc (size_of body) = omega arith in
        let past_split : second ≡ suc split = omega arith in
        join IsReader (graphs.Joiner joiner ∷ nodes_of body)
        (graphs.Splitter splitter ∷ nodes_of loop) first (
          λ text is. absurd (cc),
          subst (λ n. Numbered IsReader n (nodes_of body)) next (readers body (first + 1) _ at.2),
        )
        (subst (λ n. Numbered IsReader n (graphs.Splitter splitter ∷ nodes_of loop)) to_split (
          λ text is. absurd (cc),
          subst (λ n. Numbered IsReader n (nodes_of loop)) past_split (readers loop second _ at.4),
        ))

    row_readers : (children : Streams) (first : ℕ) (before : Source)
        → PlacedRow nodes source first before children
        → Numbered IsReader first (row_nodes children)
    row_readers Done first before at = tt
    row_readers (More next rest) first before at =
        join IsReader (nodes_of next) (row_nodes rest) first (readers next first before at.0)
        (row_readers rest (first + size_of next) _ at.1)

    branch_readers : (children : Streams) (first : ℕ) (before : ℕ → Source)
        → PlacedBranches nodes source first before children
        → Numbered IsReader first (row_nodes children)
    branch_readers Done first before at = tt
    branch_readers (More next rest) first before at =
        join IsReader (nodes_of next) (row_nodes rest) first (readers next first (before 0) at.0)
        (branch_readers rest (first + size_of next) _ at.1)
