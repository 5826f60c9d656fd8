use Rattle.std.proofs.Common.{◌≡◌, ◌+◌, ◌<◌, ◌++◌, ◌∙◌, List, [], length, map, drop, sym, ap}
use Rattle.std.proofs.Common.{append_assoc, length-append, arith}
use Rattle.std.proofs.lemmas.List.{append-nil}
use Rattle.std.proofs.Math.ListN.{drop_of_length-le}
use Rattle.std.specs.Option.{option_map}
use Rattle.strc_elab_graph.specs.Carriers.{splitter_carries}
use Rattle.strc_elab_graph.specs.Graphs.{Channel}
use Rattle.strc_elab_graph.specs.NodeView.{splitter_view, channel_view}
use Rattle.strc_elab_stream.specs.Flattening.{nodes_of, size_of, row_nodes}
use Rattle.strc_elab_stream.specs.Types.{splitter_carried}
use Rattle.strc_elab_stream.specs.View.{stream_view, streams_view}
use Rattle.strc_elab_stream.specs.Wires.{wire, to_port, split_wires}
use Rattle.strc_elab_flattening.specs.TargetView.{target_view}
use Rattle.strc_elab_flattening.proofs.NodeCounts.{few_streams}
use Rattle.strc_elab_flattening.proofs.Views.{streams_view-drop}
use Rattle.strc_elab_flattening.proofs.Wiring.{split_more, split_none}
use Rattle.strc_elab_flattening.proofs.channels.wire_split.Goals as goal

pub overflow_cast-port : goal.overflow_cast-port
overflow_cast-port c =
    let few = few_streams c.args.streams.now c.requires.nodes in
    omega (arith, c.requires.few)

pub loop-port-preserved : goal.loop-port-preserved
loop-port-preserved c =
    let streams = c.args.streams.now in
    let number = c.args.number in
    let port = c.loop-port.port in
    let next = c.loop-port.next in
    let stream = c.index-streams-port.result in
    let code = splitter_view c.args.splitter.now in
    let carried = splitter_carried code in
    let left = streams_view (drop (port + 1) streams) in
    let short : port < length streams = omega arith in
    let here = streams_view-drop streams port stream short c.index-streams-port.is in
    let counted : length (row_nodes (streams_view (drop port streams)))
    ≡ size_of (stream_view stream) + length (row_nodes left) =
    ap (λ s. length (row_nodes s)) here
    ∙ length-append (nodes_of (stream_view stream)) (row_nodes left) in
    let before = map channel_view c.loop-port.channels.items in
    let one = wire (splitter_carries code port) number port (to_port next 0) in
    let rest = split_wires number (port + 1) (drop (port + 1) carried)
    (next + c.size-next.result) left in
    let step : split_wires number port (drop port carried) next (streams_view (drop port streams))
    ≡ one ++ rest =
    ap (λ s. split_wires number port (drop port carried) next s) here
    ∙ split_more number port code next (stream_view stream) left
    ∙ ap (λ n. one ++ split_wires number (port + 1) (drop (port + 1) carried) (next + n) left)
    (sym c.size-next.ensures) in
    record {
      few = omega (arith, counted, c.size-next.ensures, c.loop-port.invariant.few);
      channels =
          ap (λ (l : List Channel). l ++ rest)
          (c.in_ok-push.ensures
          ∙ ap (λ b. before ++ wire b number port (option_map target_view c.to_port.result))
          c.carries-carries.ensures
          ∙ ap (λ t. before ++ wire (splitter_carries code port) number port t) c.to_port.ensures)
          ∙ append_assoc before one rest
          ∙ ap (λ (l : List Channel). before ++ l) (sym step)
          ∙ c.loop-port.invariant.channels;
    }

pub returns : goal.returns
returns c =
    let streams = c.args.streams.now in
    let before = map channel_view c.loop-port.channels.items in
    let carried = drop c.loop-port.port (splitter_carried (splitter_view c.args.splitter.now)) in
    let none : drop c.loop-port.port streams ≡ [] =
    drop_of_length-le streams c.loop-port-test.false in
    sym (ap (λ s. before
    ++ split_wires c.args.number c.loop-port.port carried c.loop-port.next (streams_view s)) none
    ∙ ap (λ (l : List Channel). before ++ l)
    (split_none c.args.number c.loop-port.port carried c.loop-port.next)
    ∙ append-nil before)
    ∙ c.loop-port.invariant.channels
