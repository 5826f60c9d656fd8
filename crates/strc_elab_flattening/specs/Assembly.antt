-- Whether a graph is made: only where it is one, and its nodes are connected.
use Rattle.std.specs.Prelude.{◌≡◌, Result, Ok, Err}
use Rattle.strc_elab_statements.specs.declared.error.ElabError.{ElabError}
use Rattle.strc_elab_statements.specs.declared.error.ElabErrorKind.TheVariants as refusal
use Rattle.strc_elab_graph.specs.Connections.{IsConnected}
use Rattle.strc_elab_graph.specs.Graphs.{Graph, IsGraph}
use Rattle.strc_elab_graph.specs.NodeView.{GraphParts, graph_view}

-- why no graph is made
abbrev pub HasNoGraph : Graph → ElabError → Type 0
HasNoGraph graph refusal.Disconnected = IsGraph graph → ¬ IsConnected graph
HasNoGraph graph refusal.NoMemory = Unit {0}
HasNoGraph graph _ = ⊥

-- the graph is made, or there is a reason why not
abbrev pub IsAssembled : Graph → Result GraphParts ElabError → Type 0
IsAssembled graph (Ok assembled) = (graph_view assembled ≡ graph) × IsConnected graph
IsAssembled graph (Err refused) = HasNoGraph graph refused
