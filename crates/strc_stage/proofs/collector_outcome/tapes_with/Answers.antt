use Rattle.std.proofs.Common.{◌≡◌, ◌++◌, ◌∙◌, sym, ap, arith, map, length, vec_items, get_or, []}
use Rattle.std.proofs.Common.{◌<◌}
use Rattle.std.proofs.lemmas.List.{length-map, get_or-map}
use Rattle.strc_elab_graph.specs.Graphs.{NodeCode, Identity}
use Rattle.strc_elab_graph.specs.NodeView.{node_view}
use Rattle.strc_sched_outcome.specs.Tapes.{tape_view}
use Rattle.strc_stage.specs.Telling.{added, tapes_by}
use Rattle.strc_stage.proofs.Tapes.{one_more, no_less}
use Rattle.strc_stage.proofs.collector_outcome.tapes_with.Goals as goal

pub loop-node-preserved : goal.loop-node-preserved
loop-node-preserved c =
    let l = c.loop-node in
    let codes = map node_view c.args.nodes.now in
    let words = map vec_items c.args.words.items in
    let before = map tape_view l.tapes.items in
    let after = map tape_view c.add_tape.new.tapes.items in
    let own = get_or (map vec_items l.left.items) (length before) [] in
    let within : l.node < length codes =
    let e = length-map c.args.nodes.now node_view in omega (arith, e, c.loop-node-test.true) in
    let node = c.index-nodes-node.result in
    let code : node_view node ≡ get_or codes l.node Identity =
    sym (get_or-map node_view c.args.nodes.now l.node node Identity c.loop-node-test.true
    ∙ ap node_view (sym c.index-nodes-node.is)) in
    let is : after ≡ before ++ added (get_or codes l.node Identity) l.node own =
    c.in_ok-add_tape.ensures.tapes ∙ ap (λ (o : NodeCode). before ++ added o l.node own) code in (
      one_more codes words Identity l.node before after (tapes_by codes words) own within
          is (l.invariant.1 (length before) (omega arith)) l.invariant.0,
      λ place past. c.in_ok-add_tape.ensures.left place past
          ∙ l.invariant.1 place
          (let e = no_less (get_or codes l.node Identity) l.node before after own is in
          omega (arith, e, past)),
    )
