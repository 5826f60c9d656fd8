use Rattle.std.proofs.Common.{List, ℕ, ◌≡◌, ◌++◌, ◌∙◌, ap}
use Rattle.std.proofs.Common.{length, sym}
use Rattle.strc_elab_graph.specs.declared.graph.Node.{Node}
use Rattle.strc_emit_text.specs.Texts.{texts_below}
use Rattle.strc_emit_moves.specs.Rooms.{array_text}
use Rattle.strc_emit_program.specs.Programs.{head_text, helpers_text, numbers_text, tapes_text}
use Rattle.strc_emit_text.proofs.Pushing.{both, last}
use Rattle.strc_emit_program.proofs.program.push_start.Goals as goal

pub returns : goal.returns
returns c =
    let begun = c.args.text.now.items in
    let p1 : List ℕ = head_text in
    let p2 : List ℕ = numbers_text c.args.network.now in
    let so_far_2 : c.push_numbers.new.text.items ≡ begun ++ (p1 ++ p2) = both begun
    c.push_head.new.text.items c.push_numbers.new.text.items p1 p2 c.in_ok-push_head.ensures
    c.in_ok-push_numbers.ensures in
    let p3 : List ℕ = tapes_text c.args.network.now.nodes.now in
    let so_far_3 : c.push_tapes.new.text.items ≡ begun ++ ((p1 ++ p2) ++ p3) = both begun
    c.push_numbers.new.text.items c.push_tapes.new.text.items (p1 ++ p2) p3 so_far_2
    (c.in_ok-push_tapes.ensures ∙ ap (λ (nodes : List Node). c.push_numbers.new.text.items ++
    tapes_text nodes) (sym c.requires)) in
    let p4 : List ℕ = helpers_text in
    let so_far_4 : c.push_helpers.new.text.items ≡ begun ++ (((p1 ++ p2) ++ p3) ++ p4) = both
    begun c.push_tapes.new.text.items c.push_helpers.new.text.items ((p1 ++ p2) ++ p3) p4
    so_far_3 c.in_ok-push_helpers.ensures in
    let p5 : List ℕ = texts_below (array_text c.args.network.now) (length
    c.args.network.now.channels.now) in
    last c.push_arrays.result begun c.push_helpers.new.text.items c.push_arrays.new.text.items
    (((p1 ++ p2) ++ p3) ++ p4) p5 so_far_4 c.push_arrays.ensures
