use Rattle.std.proofs.Common.{◌≡◌, ◌+◌, ◌++◌, ◌∙◌, length, map, sym, ap, subst, refl, arith}
use Rattle.std.proofs.Common.{rules}
use borrow.Author.Sizes.{sizes}
use Rattle.std.specs.Option.{option_map}
use Rattle.strc_elab_graph.specs.NodeView.{splitter_view, channel_view}
use Rattle.strc_elab_stream.specs.declared.stream.Stream.{the_lemmas}
use Rattle.strc_elab_stream.specs.Flattening.{row_nodes, splitter_nodes}
use Rattle.strc_elab_stream.specs.View.{stream_view, streams_view}
use Rattle.strc_elab_stream.specs.Wires.{row_wires}
use Rattle.strc_elab_stream.specs.Wires.{wire, wires, splitter_wires, branch_wires}
use Rattle.strc_elab_stream.specs.Wires.{joiner_wires}
use Rattle.strc_elab_flattening.specs.HasNodes.{HasNodes}
use Rattle.strc_elab_flattening.specs.TargetView.{target_view}
use Rattle.strc_elab_flattening.proofs.Appended.{append_as, append_three}
use Rattle.strc_elab_flattening.proofs.NodeCounts.{few_streams}
use Rattle.strc_elab_flattening.proofs.Views.{pipeline_size, split_join_size, pipeline_view}
use Rattle.strc_elab_flattening.proofs.Views.{split_join_view}
use Rattle.strc_elab_flattening.proofs.Wiring.{joiner_wire}
use Rattle.strc_elab_flattening.proofs.channels.+channels.Goals as goal

pub wire-wire_row-requires : goal.wire-wire_row-requires
wire-wire_row-requires t c =
    let stream = c.args.stream.now in
    let children = c.in-Pipeline.children in
    let contained = c.deref.result.now in
    let sized = pipeline_size stream children contained c.in-Pipeline.is c.deref.ensures.value in
    let same = pipeline_view stream children contained c.in-Pipeline.is c.deref.ensures.value in
    let nodes = subst HasNodes same c.requires.nodes in
    (search (rules, sizes, the_lemmas), (omega (arith, c.requires.few), nodes.1))

pub wire-row_size-requires : goal.wire-row_size-requires
wire-row_size-requires t c =
    let sized = split_join_size c.args.stream.now c.in-SplitJoin.splitter c.in-SplitJoin.children
    c.in-SplitJoin.joiner c.deref-in-SplitJoin.result.now c.in-SplitJoin.is
    c.deref-in-SplitJoin.ensures.value in
    omega (arith, c.requires.few)

pub wire-overflow_add-end : goal.wire-overflow_add-end
wire-overflow_add-end t c =
    let sized = split_join_size c.args.stream.now c.in-SplitJoin.splitter c.in-SplitJoin.children
    c.in-SplitJoin.joiner c.deref-in-SplitJoin.result.now c.in-SplitJoin.is
    c.deref-in-SplitJoin.ensures.value in
    omega (arith, c.requires.few, c.splitter_count.ensures, c.row_size.ensures)

pub wire-wire_splitter-requires-clause-few : goal.wire-wire_splitter-requires-clause-few
wire-wire_splitter-requires-clause-few t c =
    let sized = split_join_size c.args.stream.now c.in-SplitJoin.splitter c.in-SplitJoin.children
    c.in-SplitJoin.joiner c.deref-in-SplitJoin-2.result.now c.in-SplitJoin.is
    c.deref-in-SplitJoin-2.ensures.value in
    omega (arith, c.requires.few)

pub wire-wire_splitter-requires-clause-nodes : goal.wire-wire_splitter-requires-clause-nodes
wire-wire_splitter-requires-clause-nodes t c =
    let same = split_join_view c.args.stream.now c.in-SplitJoin.splitter c.in-SplitJoin.children
    c.in-SplitJoin.joiner c.deref-in-SplitJoin-2.result.now c.in-SplitJoin.is
    c.deref-in-SplitJoin-2.ensures.value in
    let nodes = subst HasNodes same c.requires.nodes in nodes.1

pub wire-wire_branches-requires : goal.wire-wire_branches-requires
wire-wire_branches-requires t c =
    let sized = split_join_size c.args.stream.now c.in-SplitJoin.splitter c.in-SplitJoin.children
    c.in-SplitJoin.joiner c.deref-in-SplitJoin-3.result.now c.in-SplitJoin.is
    c.deref-in-SplitJoin-3.ensures.value in
    let same = split_join_view c.args.stream.now c.in-SplitJoin.splitter c.in-SplitJoin.children
    c.in-SplitJoin.joiner c.deref-in-SplitJoin-3.result.now c.in-SplitJoin.is
    c.deref-in-SplitJoin-3.ensures.value in
    let nodes = subst HasNodes same c.requires.nodes in (
      search (rules, sizes, the_lemmas),
      (omega (arith, c.requires.few, c.splitter_count.ensures), nodes.1),
    )

pub wire-returns-in_ok-wire_row-in-Pipeline : goal.wire-returns-in_ok-wire_row-in-Pipeline
wire-returns-in_ok-wire_row-in-Pipeline t c =
    let same = pipeline_view c.args.stream.now c.in-Pipeline.children c.deref.result.now
    c.in-Pipeline.is c.deref.ensures.value in
    let target = option_map target_view c.args.target in
    append_as (map channel_view c.args.channels.now.items)
    (map channel_view c.wire_row.new.channels.items)
    (row_wires c.args.first (streams_view c.deref.result.now) target)
    (wires c.args.first (stream_view c.args.stream.now) target)
    c.in_ok-wire_row-in-Pipeline.ensures
    (ap (λ s. wires c.args.first s target) (sym same))

pub wire-returns-in_ok-push-in-SplitJoin : goal.wire-returns-in_ok-push-in-SplitJoin
wire-returns-in_ok-push-in-SplitJoin t c =
    let first = c.args.first in
    let target = option_map target_view c.args.target in
    let children = c.in-SplitJoin.children in
    let row = streams_view children.items in
    let splitter = option_map splitter_view c.in-SplitJoin.splitter in
    let joiner = option_map (λ weights. weights.items) c.in-SplitJoin.joiner in
    let inner = first + length (splitter_nodes splitter) in
    let end = inner + length (row_nodes row) in
    let same = split_join_view c.args.stream.now c.in-SplitJoin.splitter children
    c.in-SplitJoin.joiner children.items c.in-SplitJoin.is refl in
    let before = map channel_view c.args.channels.now.items in
    let one = map channel_view c.wire_splitter.new.channels.items in
    let two = map channel_view c.wire_branches.new.channels.items in
    let counted : c.row_size.result ≡ length (row_nodes row) =
    c.row_size.ensures
    ∙ ap (λ s. length (row_nodes (streams_view s))) c.deref-in-SplitJoin.ensures.value in
    let ends : first + c.splitter_count.result + c.row_size.result ≡ end =
    omega (arith, c.splitter_count.ensures, counted) in
    append_three before one two (map channel_view c.push-in-SplitJoin.new.channels.items)
    (splitter_wires first splitter row) (branch_wires inner row end 0)
    (joiner_wires end joiner target)
    (c.in_ok-wire_splitter-in-SplitJoin.ensures
    ∙ ap (λ s. before ++ splitter_wires first splitter (streams_view s))
    c.deref-in-SplitJoin-2.ensures.value)
    (c.in_ok-wire_branches-in-SplitJoin.ensures
    ∙ ap (λ s. one ++ branch_wires (first + c.splitter_count.result) (streams_view s)
    (first + c.splitter_count.result + c.row_size.result) 0) c.deref-in-SplitJoin-3.ensures.value
    ∙ ap (λ n. one ++ branch_wires (first + n) row
    (first + c.splitter_count.result + c.row_size.result) 0) c.splitter_count.ensures
    ∙ ap (λ n. one ++ branch_wires inner row n 0) ends)
    (c.in_ok-push-in-SplitJoin.ensures
    ∙ ap (λ n. two ++ wire c.is_some.result n 0 target) ends
    ∙ ap (λ l. two ++ l)
    (joiner_wire c.in-SplitJoin.joiner c.is_some.result end target c.is_some.ensures))
    ∙ ap (λ s. before ++ wires first s target) (sym same)

pub wire_branches-overflow_cast-port : goal.wire_branches-overflow_cast-port
wire_branches-overflow_cast-port t c =
    let few = few_streams c.args.streams.now c.requires.nodes in
    omega (arith, c.requires.few)
