use Rattle.std.proofs.Common.{◌∙◌, ◌++◌, ap, sym}
use Rattle.strc_elab_paths.proofs.Streams.{pipeline_outline, split_join_outline, loop_outline}
use Rattle.strc_elab_paths.proofs.Streams.{wrapped, three, two_and_two}
use Rattle.strc_elab_paths.proofs.outline.+outline.Goals as goal

pub push_stream-returns-in_ok-push-in-Pipeline : goal.push_stream-returns-in_ok-push-in-Pipeline
push_stream-returns-in_ok-push-in-Pipeline t c =
    let same = pipeline_outline c.args.name.now c.args.stream.now c.in-Pipeline.children
    c.deref.result.now c.in-Pipeline.is c.deref.ensures.value in
    wrapped _ _ _ _ _ _ c.in_ok-push_open-in-Pipeline.ensures
    c.in_ok-push_row-in-Pipeline.ensures c.in_ok-push-in-Pipeline.ensures.items
    ∙ ap (λ parts. c.args.parts.now.items ++ parts) (sym same)

pub push_stream-returns-in_ok-push-in-SplitJoin : goal.push_stream-returns-in_ok-push-in-SplitJoin
push_stream-returns-in_ok-push-in-SplitJoin t c =
    let same = split_join_outline c.args.name.now c.args.stream.now c.in-SplitJoin.splitter
    c.in-SplitJoin.children c.in-SplitJoin.joiner c.deref-in-SplitJoin.result.now
    c.is_some.result c.is_some-in-SplitJoin.result c.in-SplitJoin.is
    c.deref-in-SplitJoin.ensures.value c.is_some.ensures c.is_some-in-SplitJoin.ensures in
    wrapped _ _ _ _ _ _ c.in_ok-push_open-in-SplitJoin.ensures
    (three _ _ _ _ _ _ _ c.in_ok-push_node_if-in-SplitJoin.ensures
    c.in_ok-push_row-in-SplitJoin.ensures c.in_ok-push_node_if-in-SplitJoin-2.ensures)
    c.in_ok-push-in-SplitJoin.ensures.items
    ∙ ap (λ parts. c.args.parts.now.items ++ parts) (sym same)

pub push_stream-returns-in_ok-push-in-FeedbackLoop :
    goal.push_stream-returns-in_ok-push-in-FeedbackLoop
push_stream-returns-in_ok-push-in-FeedbackLoop t c =
    let given = c.in-FeedbackLoop in
    let inner = c.deref-in-FeedbackLoop in
    let outer = c.deref-in-FeedbackLoop-2 in
    let same = loop_outline c.args.name.now c.args.stream.now given.field-0 given.body given.field-2
    given.back given.field-4 inner.result.now outer.result.now given.is inner.ensures
    outer.ensures in
    wrapped _ _ _ _ _ _ c.in_ok-push_open-in-FeedbackLoop.ensures
    (two_and_two _ _ _ _ _ _ _ _ _ c.in_ok-push_node-in-FeedbackLoop.ensures
    c.in_ok-push_stream-in-FeedbackLoop.ensures c.in_ok-push_node-in-FeedbackLoop-2.ensures
    c.in_ok-push_stream-in-FeedbackLoop-2.ensures)
    c.in_ok-push-in-FeedbackLoop.ensures.items
    ∙ ap (λ parts. c.args.parts.now.items ++ parts) (sym same)
