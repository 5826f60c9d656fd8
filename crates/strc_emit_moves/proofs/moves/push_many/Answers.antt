use Rattle.std.proofs.Common.{List, ℕ, ◌≡◌, ◌++◌, codes}
use Rattle.strc_emit_moves.specs.Moves.{count_text, item_text}
use Rattle.strc_emit_text.proofs.Pushing.{both, last}
use Rattle.strc_emit_moves.proofs.moves.push_many.Goals as goal

pub returns : goal.returns
returns c =
    let begun = c.args.text.now.items in
    let p1 : List ℕ = codes "        copy_items(&" in
    let p2 : List ℕ = item_text c.args.to in
    let so_far_2 : c.push_item.new.text.items ≡ begun ++ (p1 ++ p2) = both begun
    c.push_pieces.new.text.items c.push_item.new.text.items p1 p2 c.in_ok-push_pieces.ensures
    c.in_ok-push_item.ensures in
    let p3 : List ℕ = codes ", &" in
    let so_far_3 : c.push_pieces-2.new.text.items ≡ begun ++ ((p1 ++ p2) ++ p3) = both begun
    c.push_item.new.text.items c.push_pieces-2.new.text.items (p1 ++ p2) p3 so_far_2
    c.in_ok-push_pieces-2.ensures in
    let p4 : List ℕ = item_text c.args.from in
    let so_far_4 : c.push_item-2.new.text.items ≡ begun ++ (((p1 ++ p2) ++ p3) ++ p4) = both
    begun c.push_pieces-2.new.text.items c.push_item-2.new.text.items ((p1 ++ p2) ++ p3) p4
    so_far_3 c.in_ok-push_item-2.ensures in
    let p5 : List ℕ = count_text c.args.count in
    last c.push_count.result begun c.push_item-2.new.text.items c.push_count.new.text.items (((p1
    ++ p2) ++ p3) ++ p4) p5 so_far_4 c.push_count.ensures
