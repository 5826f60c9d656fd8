use Rattle.std.proofs.Common.{List, ℕ, ◌≡◌, ◌++◌, codes, decimal}
use Rattle.strc_emit_program.specs.Fires.{number_text}
use Rattle.strc_emit_text.proofs.Pushing.{both, group_2, last, same_added}
use Rattle.strc_emit_program.proofs.fires.push_enter.Goals as goal

pub returns : goal.returns
returns c =
    let begun = c.args.text.now.items in
    let p1 : List ℕ = codes "        enter(" in
    let p2 : List ℕ = decimal c.args.node in
    let p3 : List ℕ = codes ", " in
    let so_far_1 : c.push_pieces.new.text.items ≡ begun ++ ((p1 ++ p2) ++ p3) = same_added begun
    c.push_pieces.new.text.items (p1 ++ (p2 ++ p3)) ((p1 ++ p2) ++ p3)
    c.in_ok-push_pieces.ensures (group_2 p1 p2 p3) in
    let p4 : List ℕ = number_text c.args.network.now c.args.phase c.args.node in
    let so_far_2 : c.push_number.new.text.items ≡ begun ++ (((p1 ++ p2) ++ p3) ++ p4) = both
    begun c.push_pieces.new.text.items c.push_number.new.text.items ((p1 ++ p2) ++ p3) p4
    so_far_1 c.in_ok-push_number.ensures in
    let p5 : List ℕ = codes ");\n" in
    last c.push_pieces-2.result begun c.push_number.new.text.items c.push_pieces-2.new.text.items
    (((p1 ++ p2) ++ p3) ++ p4) p5 so_far_2 c.push_pieces-2.ensures
