use Rattle.std.proofs.Common.{◌+◌, ◌++◌, ◌∙◌, List, length, map, replicate, Option, None, sym}
use Rattle.std.proofs.Common.{ℕ, ap, arith, rules}
use Rattle.std.specs.Option.{option_map}
use Rattle.strc_elab_graph.specs.NodeView.{splitter_view}
use borrow.Author.Sizes.{sizes}
use Rattle.strc_elab_stream.specs.declared.stream.Stream.{the_lemmas}
use Rattle.strc_elab_stream.specs.View.{stream_view, streams_view}
use Rattle.strc_elab_stream.specs.Flattening.{outer_loops, row_loops, splitter_nodes, joiner_nodes}
use Rattle.strc_elab_flattening.proofs.Appended.{append_as, append_three, replicate_map}
use Rattle.strc_elab_flattening.proofs.Views.{pipeline_size, split_join_size, pipeline_view}
use Rattle.strc_elab_flattening.proofs.Views.{split_join_view}
use Rattle.strc_elab_flattening.proofs.loops.+loops.Goals as goal

pub push_loops-push_row-requires : goal.push_loops-push_row-requires
push_loops-push_row-requires t c =
    let sized = pipeline_size c.args.stream.now c.in-Pipeline.children c.deref.result.now
    c.in-Pipeline.is c.deref.ensures.value in
    (search (rules, sizes, the_lemmas), omega (arith, c.requires))

pub push_loops-push_row-requires-in-SplitJoin : goal.push_loops-push_row-requires-in-SplitJoin
push_loops-push_row-requires-in-SplitJoin t c =
    let sized = split_join_size c.args.stream.now c.in-SplitJoin.splitter c.in-SplitJoin.children
    c.in-SplitJoin.joiner c.deref-in-SplitJoin.result.now c.in-SplitJoin.is
    c.deref-in-SplitJoin.ensures.value in
    (search (rules, sizes, the_lemmas), omega (arith, c.requires, c.splitter_count-before.ensures))

pub push_loops-returns-in_ok-push_row-in-Pipeline :
    goal.push_loops-returns-in_ok-push_row-in-Pipeline
push_loops-returns-in_ok-push_row-in-Pipeline t c =
    let same = pipeline_view c.args.stream.now c.in-Pipeline.children c.deref.result.now
    c.in-Pipeline.is c.deref.ensures.value in
    append_as c.args.loops.now.items c.push_row.new.loops.items
    (row_loops c.args.first (streams_view c.deref.result.now))
    (outer_loops c.args.first (stream_view c.args.stream.now)) c.in_ok-push_row-in-Pipeline.ensures
    (ap (outer_loops c.args.first) (sym same))

pub push_loops-returns-in_ok-repeat-in-SplitJoin-2 :
    goal.push_loops-returns-in_ok-repeat-in-SplitJoin-2
push_loops-returns-in_ok-repeat-in-SplitJoin-2 t c =
    let same = split_join_view c.args.stream.now c.in-SplitJoin.splitter c.in-SplitJoin.children
    c.in-SplitJoin.joiner c.deref-in-SplitJoin.result.now c.in-SplitJoin.is
    c.deref-in-SplitJoin.ensures.value in
    let before = c.args.loops.now.items in
    let row = streams_view c.deref-in-SplitJoin.result.now in
    let one = splitter_nodes (option_map splitter_view c.in-SplitJoin.splitter) in
    let last = joiner_nodes (option_map (λ weights. weights.items) c.in-SplitJoin.joiner) in
    append_three before c.repeat.new.loops.items c.push_row-in-SplitJoin.new.loops.items
    c.repeat-in-SplitJoin.new.loops.items
    (map (λ node. None) one) (row_loops (c.args.first + length one) row) (map (λ node. None) last)
    (c.in_ok-repeat-in-SplitJoin.ensures
    ∙ ap (λ n. before ++ replicate n None) c.splitter_count-before.ensures
    ∙ ap (λ (l : List (Option ℕ)). before ++ l) (replicate_map None one))
    (c.in_ok-push_row-in-SplitJoin.ensures
    ∙ ap (λ n. c.repeat.new.loops.items ++ row_loops (c.args.first + n) row)
    c.splitter_count-before.ensures)
    (c.in_ok-repeat-in-SplitJoin-2.ensures
    ∙ ap (λ n. c.push_row-in-SplitJoin.new.loops.items ++ replicate n None) c.joiner_count.ensures
    ∙ ap (λ (l : List (Option ℕ)). c.push_row-in-SplitJoin.new.loops.items ++ l)
    (replicate_map None last))
    ∙ ap (λ s. before ++ outer_loops c.args.first s) (sym same)
