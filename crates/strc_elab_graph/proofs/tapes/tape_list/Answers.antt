use Rattle.std.proofs.Common.{◌∙◌, ap, ◌++◌}
use Rattle.strc_elab_graph.proofs.TapeNodes.{node_here, no_node_here, nodes_later}
use Rattle.strc_elab_graph.proofs.tapes.tape_list.Goals.{then-gives_words+in_ok-push}
use Rattle.strc_elab_graph.proofs.tapes.tape_list.Goals.{else-gives_words}
use Rattle.strc_elab_graph.proofs.tapes.tape_list.Goals as goal

pub loop-node-preserved : goal.loop-node-preserved
loop-node-preserved c =
    let nodes = c.args.nodes.now in
    let node = c.loop-node.node in
    let own = c.index-nodes-node.result in
    let less = c.loop-node-test.true in
    let is = c.index-nodes-node.is in
    let later = nodes_later nodes node own less is in
    elim c.if-gives_words.branch [
      | then-gives_words+in_ok-push w ↦
          ap (λ tapes. tapes.items ++ later) w.tapes-is
          ∙ ap (λ l. l ++ later) w.in_ok-push.ensures.items
          ∙ node_here nodes node own less is c.gives_words.result c.gives_words.ensures
          w.if-gives_words.true c.loop-node.tapes.items _ c.loop-node.invariant
      | else-gives_words w ↦
          ap (λ tapes. tapes.items ++ later) w.tapes-is
          ∙ no_node_here nodes node own less is c.gives_words.result c.gives_words.ensures
          w.if-gives_words.false c.loop-node.tapes.items _ c.loop-node.invariant
    ]
