use Rattle.std.proofs.Common.{◌∙◌, sym, ap, ◌+◌, ◌∷◌, [], ◌++◌, map, drop, arith}
use Rattle.std.proofs.lemmas.List.{get_or-map, length-map, map-append}
use Rattle.strc_elab_graph.specs.NodeView.{node_view}
use Rattle.strc_sched_rings.specs.Parts.{part_codes}
use Rattle.strc_sched_rings.proofs.PartLists.{code_next}
use Rattle.strc_sched_rings.proofs.node_copies.part_nodes.Goals as goal

pub loop-number-preserved : goal.loop-number-preserved
loop-number-preserved c =
    let first = c.args.first in
    let next = c.args.next in
    let nodes = c.args.nodes.now in
    let codes = map node_view nodes in
    let number = c.loop-number.number in
    let node = c.index-nodes-number.result in
    let copy = c.in_ok-part_node.field-0 in
    let before = c.loop-number.part.items in
    let later = part_codes first next (number + 1) (drop (number + 1) codes) in
    ap (λ l. map node_view l ++ later) c.in_ok-push.ensures.items
    ∙ ap (λ l. l ++ later) (map-append node_view before (copy ∷ []))
    ∙ code_next first next codes (map node_view before) _ number c.is_within-own.result
    (node_view node) (node_view node) (node_view copy)
    (let less = c.loop-number-test.true in let many = length-map nodes node_view in
    omega (arith, less, many))
    (get_or-map node_view nodes number node (node_view node) c.loop-number-test.true
    ∙ ap node_view (sym c.index-nodes-number.is))
    c.is_within-own.ensures c.in_ok-part_node.ensures c.loop-number.invariant
