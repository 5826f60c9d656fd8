-- Declared nodes, channels and graphs as contracts speak of them.
use Rattle.std.specs.Prelude.{ℕ, List, map, Option}
use Rattle.strc_work_meaning.specs.Filters.{filter_of}
use Rattle.strc_elab_graph.specs.Graphs as graphs
use Rattle.strc_elab_graph.specs.declared.graph.Splitter.{Splitter}
use Rattle.strc_elab_graph.specs.declared.graph.Splitter.TheVariants as splitter
use Rattle.strc_elab_graph.specs.declared.graph.Node.{Node}
use Rattle.strc_elab_graph.specs.declared.graph.Node.TheVariants as node
use Rattle.strc_elab_graph.specs.declared.graph.Copied.{Copied}
use Rattle.strc_elab_graph.specs.declared.graph.Copied.TheVariants as copied
use Rattle.strc_elab_graph.specs.declared.graph.Channel.{Channel}

-- how a splitter deals its items
abbrev pub splitter_view : Splitter → graphs.SplitterCode
splitter_view (splitter.Duplicate carried) = graphs.Duplicate carried.items
splitter_view (splitter.Roundrobin weights) = graphs.Roundrobin weights.items

-- what a copy is a copy of
abbrev pub copied_view : Copied → graphs.CopiedCode
copied_view (copied.Filter instance) = graphs.OfFilter instance.name (filter_of instance.code)
copied_view copied.Identity = graphs.OfIdentity

-- a node
abbrev pub node_view : Node → graphs.NodeCode
node_view (node.Filter instance) = graphs.Filter instance.name (filter_of instance.code)
node_view node.Identity = graphs.Identity
node_view (node.FileReader text) = graphs.FileReader text
node_view (node.FileWriter text) = graphs.FileWriter text
node_view (node.Splitter splitter) = graphs.Splitter (splitter_view splitter)
node_view (node.Joiner weights) = graphs.Joiner weights.items
node_view (node.Scatter fission) = graphs.Scatter fission
node_view (node.Copy copied fission) = graphs.Copy (copied_view copied) fission
node_view (node.Gather fission) = graphs.Gather fission

-- a channel
abbrev pub channel_view : Channel → graphs.Channel
channel_view channel = record {
  source = channel.source;
  target = channel.target;
  enqueued =
      channel.enqueued.items;
}

-- a declared graph: its nodes and channels, and for each node the joiner of the outermost feedback
-- loop that it is in
pub record GraphParts : Type 0 where
  pub nodes : List Node
  pub channels : List Channel
  pub outer_loops : List (Option ℕ)

abbrev pub parts_of : List Node → List Channel → List (Option ℕ) → GraphParts
parts_of nodes channels outer_loops = record
    { nodes = nodes; channels = channels; outer_loops = outer_loops }

abbrev pub graph_view : GraphParts → graphs.Graph
graph_view graph =
    record {
      nodes = map node_view graph.nodes;
      channels =
          map channel_view graph.channels;
      outer_loops = graph.outer_loops;
    }

-- the names of a graph's nodes
abbrev pub node_names : GraphParts → List (List ℕ)
node_names graph = map (λ node. graphs.node_name (node_view node)) graph.nodes
