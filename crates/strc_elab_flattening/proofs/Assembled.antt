-- What the laws on channels say of a graph that is made.
use Rattle.std.proofs.Common.{◌≡◌, List, [], ◌∷◌, map, refl, sym, ap, subst, ◌∙◌, Result}
use Rattle.std.proofs.Common.{Ok, Err}
use Rattle.std.specs.Prelude.{IfOk}
use Rattle.strc_elab_statements.specs.declared.error.ElabError.{ElabError}
use Rattle.strc_elab_statements.specs.declared.error.ElabErrorKind.TheVariants as refusal
use Rattle.strc_elab_graph.specs.declared.graph.Node.{Node}
use Rattle.strc_elab_graph.specs.FlatGraphs.{IsProgram}
use Rattle.strc_elab_graph.specs.Graphs.{Graph, NodeCode, node_name}
use Rattle.strc_elab_graph.specs.NodeView.{GraphParts, graph_view, node_names, node_view}
use Rattle.strc_elab_stream.specs.Connections.{IsConnected}
use Rattle.strc_elab_stream.specs.Flattening.{IsFlat, tree_of, nodes_of, codes_of, meaning_of}
use Rattle.strc_elab_stream.specs.Instances.{Stream}
use Rattle.strc_elab_stream.specs.Types.{IsWellTyped, IsClosed}
use Rattle.strc_elab_stream.proofs.Nodes.{nodes_are_codes}
use Rattle.strc_elab_stream.proofs.Paths.{wires_connect}
use Rattle.strc_elab_stream.proofs.Whole.{wires_are_flat, wires_are_graphs, wires_are_programs}
use Rattle.strc_elab_stream.specs.Wires.{wired}
use Rattle.strc_elab_flattening.specs.Assembly.{IsAssembled, HasNoGraph}
use Rattle.strc_elab_flattening.specs.Verdicts.{IsAccepted, IsRefused, IsFlattened}

-- a refusal by the numbers of nodes alone is one of whatever is said of connections
pub refused_before : (nodes codes : List NodeCode) (Connected : Type 0) (refused : ElabError)
    → nodes ≡ codes → IsRefused nodes (Unit {0}) refused → IsRefused codes Connected refused
refused_before nodes codes Connected refusal.NodeLimit same is =
    subst (λ l. IsRefused l Connected refusal.NodeLimit) same is
refused_before nodes codes Connected refusal.TwoInputs same is =
    subst (λ l. IsRefused l Connected refusal.TwoInputs) same is
refused_before nodes codes Connected (refusal.TapeTwice node) same is =
    subst (λ l. IsRefused l Connected (refusal.TapeTwice node)) same is
refused_before nodes codes Connected refusal.Disconnected same is = absurd (is.3 tt)
refused_before nodes codes Connected refusal.NoMemory same is = tt
refused_before nodes codes Connected _ same is = absurd is

no_graph_refused : (stream : Stream) → IsWellTyped stream
    → IsAccepted (codes_of stream) (Unit {0}) → (refused : ElabError)
    → HasNoGraph (wired stream) refused
    → IsRefused (codes_of stream) (IsConnected (meaning_of stream)) refused
no_graph_refused stream typed few refusal.Disconnected no_graph = (
  few.few,
  few.one_input,
  few.apart,
  λ connected. no_graph (wires_are_graphs stream typed) ((wires_connect stream typed).1 connected),
)
no_graph_refused stream typed few refusal.NoMemory no_graph = tt
no_graph_refused stream typed few _ no_graph = absurd no_graph

-- the verdict on a well-typed stream with few enough nodes
pub assembled_verdict : (stream : Stream) (nodes : List NodeCode)
    (result : Result GraphParts ElabError)
    → nodes ≡ nodes_of stream → IsAccepted nodes (Unit {0}) → IsAssembled (wired stream) result
    → IsWellTyped stream → IsFlattened stream result
assembled_verdict stream nodes (Ok graph) same few assembled typed =
    let codes = same ∙ nodes_are_codes stream typed in
    let accepted = subst (λ l. IsAccepted l (Unit {0})) codes few in
    record {
      few = accepted.few;
      one_input = accepted.one_input;
      apart = accepted.apart;
      connected = (wires_connect stream typed).0 assembled.1;
    }
assembled_verdict stream nodes (Err refused) same few assembled typed =
    no_graph_refused stream typed
    (subst (λ l. IsAccepted l (Unit {0})) (same ∙ nodes_are_codes stream typed) few) refused
    assembled

-- its flat graph
pub assembled_flat : (stream : Stream) (result : Result GraphParts ElabError)
    → IsAssembled (wired stream) result → IsWellTyped stream
    → IfOk result (λ graph. IsFlat stream (graph_view graph))
assembled_flat stream (Ok graph) assembled typed =
    subst (IsFlat stream) (sym assembled.0) (wires_are_flat stream typed)
assembled_flat stream (Err refused) assembled typed = tt

-- the program's
pub assembled_program : (stream : Stream) (nodes : List NodeCode)
    (result : Result GraphParts ElabError)
    → nodes ≡ nodes_of stream → IsAccepted nodes (Unit {0}) → IsAssembled (wired stream) result
    → IsClosed stream → IfOk result (λ graph. IsProgram (tree_of stream) (graph_view graph))
assembled_program stream nodes (Ok graph) same few assembled closed =
    let accepted = subst (λ l. IsAccepted l (Unit {0})) same few in
    subst (IsProgram (tree_of stream)) (sym assembled.0)
    (wires_are_programs stream closed accepted.one_input)
assembled_program stream nodes (Err refused) same few assembled closed = tt

names_view : (nodes : List Node)
    → map (λ node. node_name (node_view node)) nodes ≡ map node_name (map node_view nodes)
names_view [] = refl
names_view (first ∷ rest) = ap (λ l. node_name (node_view first) ∷ l) (names_view rest)

-- the names of its nodes
pub assembled_names : (stream : Stream) (result : Result GraphParts ElabError)
    → IsAssembled (wired stream) result
    → IfOk result (λ graph. node_names graph ≡ map node_name (nodes_of stream))
assembled_names stream (Ok graph) assembled =
    names_view graph.nodes ∙ ap (λ (g : Graph). map node_name g.nodes) assembled.0
assembled_names stream (Err refused) assembled = tt
