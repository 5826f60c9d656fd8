-- Nodes and channels in words, as a person knows them.
use Rattle.std.specs.Prelude.{◌≡◌, ℕ, List, [], ◌++◌, codes, decimal, map, slice_get}
use Rattle.std.specs.Prelude.{Option, Some, None}
use Rattle.std.specs.Option.{option_map}
use Rattle.strc_elab_graph.specs.Graphs.{node_name}
use Rattle.strc_elab_graph.specs.NodeView.{GraphParts, node_view}
use Rattle.strc_elab_graph.specs.declared.graph.Node.{Node}
use Rattle.strc_cli_diagnostics.specs.Messages.{MessageView, with_more}
use Rattle.strc_cli_source.specs.declared.preorder.Preorder.{Preorder}

-- a message goes on with some words, of which something holds
pub record Adds (AreSo : List ℕ → Type 0) (old new : MessageView) : Type 0 where
  pub words : List ℕ
  pub are_so : AreSo words
  pub goes_on : new ≡ with_more old words

-- these words, and some more, if any
abbrev pub BeginsWith : (beginning : List ℕ) → (words : List ℕ) → Type 0
BeginsWith beginning words = (rest : List ℕ) × (words ≡ beginning ++ rest)

-- a name or a token in quotes
abbrev pub quoted : (name : List ℕ) → List ℕ
quoted name = codes "`" ++ name ++ codes "`"

-- a node's path after its number, where it is known
abbrev pub path_words : (path : Option (List ℕ)) → List ℕ
path_words None = []
path_words (Some path) = codes ", " ++ path

-- a node by its name, its number and its path; by its number alone where it has no name
abbrev pub named_words : (name path : Option (List ℕ)) → (node : ℕ) → List ℕ
named_words None path node = codes "node " ++ decimal node
named_words (Some name) path node =
    quoted name ++ codes " (node " ++ decimal node ++ path_words path ++ codes ")"

-- the name of a node: the filter's, or what kind of node it is
abbrev pub name_at : List Node → (node : ℕ) → Option (List ℕ)
name_at nodes node = slice_get (map (λ found. node_name (node_view found)) nodes) node

-- a node as a person knows it, by its number among these and by its path
abbrev pub node_words : List Node → (path : Option (List ℕ)) → (node : ℕ) → List ℕ
node_words nodes path node = named_words (name_at nodes node) path node

-- the same of a node of a stream, by its number in preorder
abbrev pub seen_words : Preorder → (path : Option (List ℕ)) → (node : ℕ) → List ℕ
seen_words order path node =
    named_words (option_map (λ seen. seen.name.items) (slice_get order.nodes.items node)) path node

-- the nodes of a graph; none where it isn't known
abbrev pub nodes_in : Option GraphParts → List Node
nodes_in None = []
nodes_in (Some graph) = graph.nodes

-- a channel by its number
abbrev pub channel_words : (channel : ℕ) → List ℕ
channel_words channel = codes "channel " ++ decimal channel
