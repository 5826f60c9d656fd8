use Rattle.std.proofs.Common.{◌≡◌, ◌++◌, ◌∙◌, List, map, ap}
use Rattle.strc_elab_graph.specs.declared.graph.Node.{Node}
use Rattle.strc_elab_graph.specs.NodeView.{node_view}
use Rattle.strc_elab_stream.specs.Connections.{IsConnected}
use Rattle.strc_elab_stream.specs.Flattening.{nodes_of, codes_of, meaning_of}
use Rattle.strc_elab_stream.specs.View.{stream_view}
use Rattle.strc_elab_stream.proofs.Nodes.{nodes_are_codes}
use Rattle.strc_elab_flattening.proofs.Assembled.{refused_before, assembled_verdict, assembled_flat}
use Rattle.strc_elab_flattening.proofs.Assembled.{assembled_program}
use Rattle.strc_elab_flattening.proofs.Assembled.{assembled_names}
use Rattle.strc_elab_flattening.proofs.NodeCounts.{typed_has_nodes}
use Rattle.strc_elab_flattening.proofs.flatten.flatten.Goals as goal

pub returns-in-Ok-clause-verdict : goal.returns-in-Ok-clause-verdict
returns-in-Ok-clause-verdict c = λ typed.
    let yes = c.has_nodes.ensures.1 (typed_has_nodes (stream_view c.args.stream.now) typed) in
    let no = c.if-not-has_nodes.true in
    absurd (cc)

pub returns-in-Ok-2-clause-verdict : goal.returns-in-Ok-2-clause-verdict
returns-in-Ok-2-clause-verdict c =
    let stream = stream_view c.args.stream.now in
    let same : map node_view c.deref.result.now ≡ nodes_of stream =
    ap (map node_view) c.deref.ensures.value ∙ c.in_ok-collect.ensures
    ∙ ap (λ (l : List Node). map node_view l ++ nodes_of stream) c.new-nodes.ensures.items in
    assembled_verdict stream (map node_view c.deref.result.now) c.graph_of.result same
    c.in-Ok-2.ensures
    c.graph_of.ensures

pub returns-in-Ok-2-clause-graph : goal.returns-in-Ok-2-clause-graph
returns-in-Ok-2-clause-graph c =
    assembled_flat (stream_view c.args.stream.now) c.graph_of.result c.graph_of.ensures

pub returns-in-Ok-2-clause-program : goal.returns-in-Ok-2-clause-program
returns-in-Ok-2-clause-program c =
    let stream = stream_view c.args.stream.now in
    let same : map node_view c.deref.result.now ≡ nodes_of stream =
    ap (map node_view) c.deref.ensures.value ∙ c.in_ok-collect.ensures
    ∙ ap (λ (l : List Node). map node_view l ++ nodes_of stream) c.new-nodes.ensures.items in
    assembled_program stream (map node_view c.deref.result.now) c.graph_of.result same
    c.in-Ok-2.ensures
    c.graph_of.ensures

pub returns-in-Ok-2-clause-names : goal.returns-in-Ok-2-clause-names
returns-in-Ok-2-clause-names c =
    assembled_names (stream_view c.args.stream.now) c.graph_of.result c.graph_of.ensures

pub returns-in-Err-clause-verdict : goal.returns-in-Err-clause-verdict
returns-in-Err-clause-verdict c = λ typed.
    let stream = stream_view c.args.stream.now in
    let same : map node_view c.deref.result.now ≡ nodes_of stream =
    ap (map node_view) c.deref.ensures.value ∙ c.in_ok-collect.ensures
    ∙ ap (λ (l : List Node). map node_view l ++ nodes_of stream) c.new-nodes.ensures.items in
    refused_before (map node_view c.deref.result.now) (codes_of stream)
    (IsConnected (meaning_of stream)) c.in-Err.refusal (same ∙ nodes_are_codes stream typed)
    c.in-Err.ensures
