use Rattle.std.proofs.Common.{List, ℕ, ◌≡◌, ◌++◌, ◌∙◌, ap, codes}
use Rattle.strc_work_code.specs.Code.{code_of}
use Rattle.strc_work_code.specs.Nodes.{nodes_room}
use Rattle.strc_emit_text.specs.Texts.{texts_below}
use Rattle.strc_emit_code.specs.Texts.{node_text}
use Rattle.strc_emit_filter.specs.Variables.{local_text}
use Rattle.strc_emit_filter.specs.Filters.{body_head, counter_text}
use Rattle.strc_emit_text.proofs.Pushing.{both, last}
use Rattle.strc_emit_filter.proofs.bodies.push_body.Goals as goal

pub returns : goal.returns
returns c =
    let begun = c.args.text.now.items in
    let p1 : List ℕ = body_head c.args.function.now.node c.args.name.now in
    let p2 : List ℕ = counter_text c.args.counts_alone in
    let so_far_2 : c.push_counter.new.text.items ≡ begun ++ (p1 ++ p2) = both begun
    c.push_head.new.text.items c.push_counter.new.text.items p1 p2 c.in_ok-push_head.ensures
    c.in_ok-push_counter.ensures in
    let p3 : List ℕ = texts_below (local_text c.args.function.now) (nodes_room (code_of
    c.args.code.now)) in
    let so_far_3 : c.push_locals.new.text.items ≡ begun ++ ((p1 ++ p2) ++ p3) = both begun
    c.push_counter.new.text.items c.push_locals.new.text.items (p1 ++ p2) p3 so_far_2
    (c.in_ok-push_locals.ensures ∙ ap (λ slots. c.push_counter.new.text.items ++ texts_below
    (local_text c.args.function.now) slots) c.slot_count.ensures) in
    let p4 : List ℕ = node_text c.args.function.now 1 c.args.code.now in
    let so_far_4 : c.push_node.new.text.items ≡ begun ++ (((p1 ++ p2) ++ p3) ++ p4) = both begun
    c.push_locals.new.text.items c.push_node.new.text.items ((p1 ++ p2) ++ p3) p4 so_far_3
    c.in_ok-push_node.ensures in
    let p5 : List ℕ = codes "    return NO_FAULT;\n}\n" in
    last c.push_bytes.result begun c.push_node.new.text.items c.push_bytes.new.text.items (((p1
    ++ p2) ++ p3) ++ p4) p5 so_far_4 c.push_bytes.ensures
