use Rattle.std.proofs.Common.{◌++◌, ◌∙◌, List, map, sym, ap, append_assoc}
use Rattle.std.specs.Option.{option_map}
use Rattle.strc_elab_graph.specs.Graphs.{NodeCode}
use Rattle.strc_elab_graph.specs.NodeView.{node_view, splitter_view}
use Rattle.strc_elab_stream.specs.Flattening.{nodes_of, row_nodes, splitter_nodes, joiner_nodes}
use Rattle.strc_elab_stream.specs.View.{stream_view, streams_view}
use Rattle.strc_elab_flattening.proofs.Views.{stream_view-Pipeline, stream_view-SplitJoin}
use Rattle.strc_elab_flattening.proofs.nodes.+nodes.Goals as goal

pub collect-returns-in_ok-collect_row-in-Pipeline :
    goal.collect-returns-in_ok-collect_row-in-Pipeline
collect-returns-in_ok-collect_row-in-Pipeline t c =
    let before = map node_view c.args.nodes.now.items in
    c.in_ok-collect_row-in-Pipeline.ensures
    ∙ ap (λ s. before ++ row_nodes (streams_view s)) c.deref.ensures.value
    ∙ ap (λ s. before ++ nodes_of s) (sym (stream_view-Pipeline c.in-Pipeline.children))
    ∙ ap (λ s. before ++ nodes_of (stream_view s)) (sym c.in-Pipeline.is)

pub collect-returns-in_ok-push_joiner-in-SplitJoin :
    goal.collect-returns-in_ok-push_joiner-in-SplitJoin
collect-returns-in_ok-push_joiner-in-SplitJoin t c =
    let before = map node_view c.args.nodes.now.items in
    let one = splitter_nodes (option_map splitter_view c.in-SplitJoin.splitter) in
    let last = joiner_nodes (option_map (λ weights. weights.items) c.in-SplitJoin.joiner) in
    c.in_ok-push_joiner-in-SplitJoin.ensures
    ∙ ap (λ (l : List NodeCode). l ++ last) c.in_ok-collect_row-in-SplitJoin.ensures
    ∙ ap (λ (l : List NodeCode). (l ++ row_nodes (streams_view c.deref-in-SplitJoin.result.now))
    ++ last) c.in_ok-push_splitter-in-SplitJoin.ensures
    ∙ ap (λ s. ((before ++ one) ++ row_nodes (streams_view s)) ++ last)
    c.deref-in-SplitJoin.ensures.value
    ∙ ap (λ (l : List NodeCode). l ++ last)
    (append_assoc before one (row_nodes (streams_view c.in-SplitJoin.children.items)))
    ∙ append_assoc before (one ++ row_nodes (streams_view c.in-SplitJoin.children.items)) last
    ∙ ap (λ s. before ++ nodes_of s)
    (sym (stream_view-SplitJoin c.in-SplitJoin.splitter c.in-SplitJoin.children
    c.in-SplitJoin.joiner))
    ∙ ap (λ s. before ++ nodes_of (stream_view s)) (sym c.in-SplitJoin.is)
