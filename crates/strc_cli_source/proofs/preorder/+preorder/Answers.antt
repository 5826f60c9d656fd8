use Rattle.std.proofs.Common.{map, length, ap, ◌∙◌, arith}
use Rattle.strc_elab_graph.specs.Carriers.{carries_in, splitter_carries}
use Rattle.strc_elab_graph.specs.Graphs.{Joiner}
use Rattle.strc_elab_graph.specs.NodeView.{splitter_view}
use Rattle.strc_cli_source.specs.Preorders.{node_count, seen_view, tree_of, trees_of}
use Rattle.strc_cli_source.proofs.Trees.{pipeline_tree, split_join_tree, loop_tree}
use Rattle.strc_cli_source.proofs.Orders.{append_three, sides_ends, sides_links, loop_links}
use Rattle.strc_cli_source.proofs.preorder.+preorder.Goals as goal

pub visit-returns-in-Pipeline : goal.visit-returns-in-Pipeline
visit-returns-in-Pipeline t c =
    let same = pipeline_tree c.args.stream.now c.in-Pipeline.children c.deref.result.now
    c.in-Pipeline.is c.deref.ensures.value in
    record {
      nodes = rw same c.visit_row.ensures.nodes;
      count = rw same c.visit_row.ensures.count;
      links = rw same c.visit_row.ensures.links;
      ends = rw same c.visit_row.ensures.ends;
    }

pub visit-returns-in_ok-link_all-in-SplitJoin : goal.visit-returns-in_ok-link_all-in-SplitJoin
visit-returns-in_ok-link_all-in-SplitJoin t c =
    let old = c.args.order.now in
    let one = c.add_part_if.new.self in
    let two = c.visit_sides.new.order in
    let first = c.in_ok-entry-in-SplitJoin in
    let sides = c.in_ok-exits-in-SplitJoin in
    let last = c.in_ok-exit-in-SplitJoin in
    let kept = c.link_all.ensures.nodes in
    let same = split_join_tree c.args.stream.now c.in-SplitJoin.splitter c.in-SplitJoin.children
    c.in-SplitJoin.joiner c.deref-in-SplitJoin.result.now c.is_some.result
    c.is_some-in-SplitJoin.result c.in-SplitJoin.is c.deref-in-SplitJoin.ensures.value
    c.is_some.ensures c.is_some-in-SplitJoin.ensures in
    record {
      nodes = rw same (append_three (map seen_view old.nodes.items)
          (map seen_view one.nodes.items) (map seen_view two.nodes.items) _ _ _ _
          first.ensures.nodes sides.ensures.nodes
          (ap (λ nodes. map seen_view nodes.items) kept ∙ last.ensures.nodes));
      count = rw same (omega (
        arith,
        first.ensures.count,
        sides.ensures.count,
        last.ensures.count,
        ap (λ nodes. length nodes.items) kept,
      ));
      links = rw same (sides_links old one two c.add_part_if-in-SplitJoin.new.self
          c.link_all.new.self c.is_some.result c.is_some-in-SplitJoin.result
          (trees_of c.deref-in-SplitJoin.result.now) first.entry last.exit sides.exits.items
          c.deref-in-SplitJoin-2.result.now first.ensures.count first.ensures.links
          first.ensures.number sides.ensures.count sides.ensures.links sides.ensures.exits
          last.ensures.links last.ensures.number c.in_ok-link_all-in-SplitJoin.ensures.links
          c.deref-in-SplitJoin-2.ensures.value);
      ends = rw same (sides_ends (node_count old) (node_count one) (node_count two)
          c.is_some.result c.is_some-in-SplitJoin.result
          (trees_of c.deref-in-SplitJoin.result.now) first.entry last.exit first.ensures.count
          sides.ensures.count first.ensures.number last.ensures.number);
    }

pub visit-returns-in_ok-link-in-FeedbackLoop-4-clause-links :
    goal.visit-returns-in_ok-link-in-FeedbackLoop-4-clause-links
visit-returns-in_ok-link-in-FeedbackLoop-4-clause-links t c =
    let given = c.in-FeedbackLoop in
    let inner = c.deref-in-FeedbackLoop in
    let outer = c.deref-in-FeedbackLoop-2 in
    let same = loop_tree c.args.stream.now given.weights given.body given.splitter given.back
    given.field-4 inner.result.now outer.result.now given.is inner.ensures outer.ensures in
    let joiner = c.in_ok-joiner-in-FeedbackLoop in
    let body = c.in_ok-body-in-FeedbackLoop in
    let split = c.in_ok-split-in-FeedbackLoop in
    let back = c.in_ok-back-in-FeedbackLoop in
    rw same (loop_links c.args.order.now c.add_part.new.self c.visit.new.order c.link.new.self
    c.add_part-in-FeedbackLoop.new.self c.link-in-FeedbackLoop.new.self
    c.visit-in-FeedbackLoop.new.order c.link-in-FeedbackLoop-2.new.self
    c.link-in-FeedbackLoop-3.new.self joiner.joiner split.split body.body back.back
    (carries_in (Joiner given.weights.items) 0)
    (splitter_carries (splitter_view given.splitter) 0) (tree_of inner.result.now)
    (tree_of outer.result.now) joiner.ensures.number joiner.ensures.count joiner.ensures.links
    body.ensures.count body.ensures.links body.ensures.ends c.link.ensures.nodes
    c.in_ok-link-in-FeedbackLoop.ensures.links split.ensures.number split.ensures.count
    split.ensures.links c.link-in-FeedbackLoop.ensures.nodes
    c.in_ok-link-in-FeedbackLoop-2.ensures.links back.ensures.links back.ensures.ends
    c.in_ok-link-in-FeedbackLoop-3.ensures.links c.in_ok-link-in-FeedbackLoop-4.ensures.links)
