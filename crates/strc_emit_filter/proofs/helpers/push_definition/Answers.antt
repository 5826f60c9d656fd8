use Rattle.std.proofs.Common.{List, ℕ, ◌≡◌, ◌++◌}
use Rattle.strc_emit_text.specs.Texts.{texts_below}
use Rattle.strc_emit_code.specs.Texts.{node_text}
use Rattle.strc_emit_filter.specs.Variables.{local_text}
use Rattle.strc_emit_filter.specs.Helpers.{argument_text, entry_text, head_text, value_text}
use Rattle.strc_emit_text.proofs.Pushing.{both, last}
use Rattle.strc_emit_filter.proofs.helpers.push_definition.Goals as goal

pub returns : goal.returns
returns c =
    let begun = c.args.text.now.items in
    let p1 : List ℕ = head_text c.args.function.now.node c.args.number
    c.args.helper.now.parameters in
    let p2 : List ℕ = entry_text in
    let so_far_2 : c.push_entry.new.text.items ≡ begun ++ (p1 ++ p2) = both begun
    c.push_head.new.text.items c.push_entry.new.text.items p1 p2 c.in_ok-push_head.ensures
    c.in_ok-push_entry.ensures in
    let p3 : List ℕ = texts_below (local_text c.args.function.now) c.args.helper.now.slots in
    let so_far_3 : c.push_locals.new.text.items ≡ begun ++ ((p1 ++ p2) ++ p3) = both begun
    c.push_entry.new.text.items c.push_locals.new.text.items (p1 ++ p2) p3 so_far_2
    c.in_ok-push_locals.ensures in
    let p4 : List ℕ = texts_below (argument_text c.args.function.now)
    c.args.helper.now.parameters in
    let so_far_4 : c.push_arguments.new.text.items ≡ begun ++ (((p1 ++ p2) ++ p3) ++ p4) = both
    begun c.push_locals.new.text.items c.push_arguments.new.text.items ((p1 ++ p2) ++ p3) p4
    so_far_3 c.in_ok-push_arguments.ensures in
    let p5 : List ℕ = node_text c.args.function.now 1 c.args.helper.now.code in
    let so_far_5 : c.push_node.new.text.items ≡ begun ++ ((((p1 ++ p2) ++ p3) ++ p4) ++ p5) =
    both begun c.push_arguments.new.text.items c.push_node.new.text.items (((p1 ++ p2) ++ p3) ++
    p4) p5 so_far_4 c.in_ok-push_node.ensures in
    let p6 : List ℕ = value_text c.args.function.now in
    last c.push_value.result begun c.push_node.new.text.items c.push_value.new.text.items ((((p1
    ++ p2) ++ p3) ++ p4) ++ p5) p6 so_far_5 c.push_value.ensures
