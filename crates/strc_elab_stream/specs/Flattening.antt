-- The flat graph that a stream of instances means (StreamIt specification 2.1, "Streams"; Lee and
-- Messerschmitt 1987).
use Rattle.std.specs.Prelude.{ℕ, ◌+◌, List, [], ◌∷◌, ◌++◌, length, map, replicate, Option}
use Rattle.std.specs.Prelude.{Some, None}
use Rattle.std.specs.Option.{option_map}
use Rattle.strc_elab_dataflow.specs.Streams as trees
use Rattle.strc_elab_dataflow.specs.Flat as flat
use Rattle.strc_elab_stream.specs.Instances.{Stream, Streams, Filter, Identity, FileReader}
use Rattle.strc_elab_stream.specs.Instances.{FileWriter}
use Rattle.strc_elab_stream.specs.Instances.{Pipeline, SplitJoin, FeedbackLoop, Done, More}
use Rattle.strc_elab_graph.specs.Graphs as graphs
use Rattle.strc_elab_graph.specs.FlatGraphs as flat_graphs
use Rattle.strc_elab_graph.specs.Graphs.{NodeCode, Graph, SplitterCode}

-- the tree of a stream

abbrev mutual
  -- a stream as a tree of nodes; a composite stream has a child, and one that had none would pass
  -- its items on
  pub tree_of : Stream → trees.Stream NodeCode
  tree_of (Filter name filter) = trees.One (graphs.Filter name filter)
  tree_of Identity = trees.One graphs.Identity
  tree_of (FileReader text) = trees.Reader (graphs.FileReader text)
  tree_of (FileWriter text) = trees.One (graphs.FileWriter text)
  tree_of (Pipeline children) = trees.Pipeline (trees_of children)
  tree_of (SplitJoin splitter children joiner) = trees.SplitJoin
      (option_map graphs.Splitter splitter)
      (trees_of children) (option_map graphs.Joiner joiner)
  tree_of (FeedbackLoop joiner body splitter loop enqueued) =
      trees.FeedbackLoop (graphs.Joiner joiner) (tree_of body) (graphs.Splitter splitter)
      (tree_of loop) enqueued

  pub trees_of : Streams → trees.Streams NodeCode
  trees_of Done = trees.Last (trees.One graphs.Identity)
  trees_of (More first rest) = row_of (tree_of first) rest

  -- a tree, and then the trees of streams in a row
  pub row_of : trees.Stream NodeCode → Streams → trees.Streams NodeCode
  row_of tree Done = trees.Last tree
  row_of tree (More next rest) = trees.More tree (row_of (tree_of next) rest)

-- the flat graph by sources, and the codes of its nodes
abbrev pub meaning_of : Stream → flat.Graph NodeCode
meaning_of stream = trees.flat (tree_of stream)

abbrev pub codes_of : Stream → List NodeCode
codes_of stream = (trees.layout (tree_of stream)).codes

-- nodes in preorder

-- a splitter or a joiner, where there is one
abbrev pub splitter_nodes : Option SplitterCode → List NodeCode
splitter_nodes None = []
splitter_nodes (Some splitter) = graphs.Splitter splitter ∷ []

abbrev pub joiner_nodes : Option (List ℕ) → List NodeCode
joiner_nodes None = []
joiner_nodes (Some weights) = graphs.Joiner weights ∷ []

abbrev mutual
  -- in a split-join the splitter, the children, the joiner; in a feedback loop the joiner, the
  -- body, the splitter, the loop
  pub nodes_of : Stream → List NodeCode
  nodes_of (Filter name filter) = graphs.Filter name filter ∷ []
  nodes_of Identity = graphs.Identity ∷ []
  nodes_of (FileReader text) = graphs.FileReader text ∷ []
  nodes_of (FileWriter text) = graphs.FileWriter text ∷ []
  nodes_of (Pipeline children) = row_nodes children
  nodes_of (SplitJoin splitter children joiner) =
      splitter_nodes splitter ++ row_nodes children ++ joiner_nodes joiner
  nodes_of (FeedbackLoop joiner body splitter loop enqueued) =
      graphs.Joiner joiner ∷ nodes_of body ++ graphs.Splitter splitter ∷ nodes_of loop

  -- those of streams in a row, or side by side
  pub row_nodes : Streams → List NodeCode
  row_nodes Done = []
  row_nodes (More first rest) = nodes_of first ++ row_nodes rest

-- how many nodes a stream has
abbrev pub size_of : Stream → ℕ
size_of stream = length (nodes_of stream)

abbrev mutual
  -- the joiner of the outermost feedback loop that each node is in, the first node of the
  -- stream having this number
  pub outer_loops : (first : ℕ) → Stream → List (Option ℕ)
  outer_loops first (Pipeline children) = row_loops first children
  outer_loops first (SplitJoin splitter children joiner) =
      map (λ node. None) (splitter_nodes splitter)
      ++ row_loops (first + length (splitter_nodes splitter)) children
      ++ map (λ node. None) (joiner_nodes joiner)
  outer_loops first (FeedbackLoop joiner body splitter loop enqueued) =
      replicate (size_of (FeedbackLoop joiner body splitter loop enqueued)) (Some first)
  outer_loops first _ = None ∷ []

  -- the joiners of the outermost feedback loops of the nodes of streams in a row, or side by side
  pub row_loops : (first : ℕ) → Streams → List (Option ℕ)
  row_loops first Done = []
  row_loops first (More next rest) = outer_loops first next ++ row_loops (first + size_of next) rest

-- a graph of nodes and channels is the flat graph of a stream
abbrev pub IsFlat : Stream → Graph → Type 0
IsFlat stream graph = flat_graphs.IsFlat (tree_of stream) graph
