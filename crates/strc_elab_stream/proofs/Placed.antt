-- A stream that is in a graph of nodes and sources: which node is where, and what comes to
-- its input ports.
use Rattle.std.proofs.Common.{◌≡◌, ℕ, suc, ◌+◌, List, length, Some, None, Option, slice_get}
use Rattle.strc_elab_dataflow.specs.Flat.{Source}
use Rattle.strc_elab_dataflow.specs.Streams.{delayed}
use Rattle.strc_elab_graph.specs.Graphs as graphs
use Rattle.strc_elab_graph.specs.Graphs.{NodeCode, SplitterCode}
use Rattle.strc_elab_graph.specs.FlatGraphs.{program_input}
use Rattle.strc_elab_stream.specs.Instances.{Stream, Streams, Filter, Identity, FileReader}
use Rattle.strc_elab_stream.specs.Instances.{FileWriter}
use Rattle.strc_elab_stream.specs.Instances.{Pipeline, SplitJoin, FeedbackLoop, Done, More}
use Rattle.strc_elab_stream.specs.Flattening.{row_nodes, size_of, splitter_nodes}
use Rattle.strc_elab_stream.proofs.Outlets.{from, outlet, branch_outlets, splitter_outlet}

module _ (nodes : List NodeCode) (source : ℕ → ℕ → Source) where
  -- a node with what comes to it at port 0
  abbrev pub IsNode : ℕ → Source → NodeCode → Type 0
  IsNode number before code = (slice_get nodes number ≡ Some code) × (source number 0 ≡ before)

  abbrev pub PlacedSplitter : ℕ → Source → Option SplitterCode → Type 0
  PlacedSplitter number before None = Unit {0}
  PlacedSplitter number before (Some splitter) = IsNode number before (graphs.Splitter splitter)

  abbrev pub PlacedJoiner : ℕ → (ℕ → Source) → Option (List ℕ) → Type 0
  PlacedJoiner number before None = Unit {0}
  PlacedJoiner number before (Some weights) =
      (slice_get nodes number ≡ Some (graphs.Joiner weights))
      × ((port : ℕ) → source number port ≡ before port)

  abbrev mutual
    -- a stream from this number on, with what comes to it
    pub Placed : (first : ℕ) → Source → Stream → Type 0
    Placed first before (Filter name filter) = IsNode first before (graphs.Filter name filter)
    Placed first before Identity = IsNode first before graphs.Identity
    Placed first before (FileReader text) = IsNode first program_input (graphs.FileReader text)
    Placed first before (FileWriter text) = IsNode first before (graphs.FileWriter text)
    Placed first before (Pipeline children) = PlacedRow first before children
    Placed first before (SplitJoin splitter children joiner) =
        PlacedSplitter first before splitter
        × PlacedBranches (first + length (splitter_nodes splitter)) (splitter_outlet first splitter)
        children
        × PlacedJoiner (first + length (splitter_nodes splitter) + length (row_nodes children))
        (branch_outlets (first + length (splitter_nodes splitter)) children) joiner
    Placed first before (FeedbackLoop joiner body splitter loop enqueued) =
        IsNode first before (graphs.Joiner joiner)
        × (source first 1 ≡ delayed enqueued (outlet (first + 2 + size_of body) loop))
        × Placed (first + 1) (from first 0) body
        × IsNode (first + 1 + size_of body) (outlet (first + 1) body) (graphs.Splitter splitter)
        × Placed (first + 2 + size_of body) (from (first + 1 + size_of body) 1) loop

    -- streams in a row
    pub PlacedRow : (first : ℕ) → Source → Streams → Type 0
    PlacedRow first before Done = Unit {0}
    PlacedRow first before (More next rest) =
        Placed first before next × PlacedRow (first + size_of next) (outlet first next) rest

    -- streams side by side, with what comes to each
    pub PlacedBranches : (first : ℕ) → (ℕ → Source) → Streams → Type 0
    PlacedBranches first before Done = Unit {0}
    PlacedBranches first before (More next rest) =
        Placed first (before 0) next
        × PlacedBranches (first + size_of next) (λ port. before (suc port)) rest
