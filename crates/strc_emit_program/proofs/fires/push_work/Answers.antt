use Rattle.std.proofs.Common.{List, ℕ, ◌≡◌, ◌++◌, ◌∙◌, ap, codes, decimal}
use Rattle.strc_emit_program.specs.Fires.{entry_text, number_text}
use Rattle.strc_emit_moves.specs.Places.{given_at, pointer_text, taken_at}
use Rattle.strc_emit_text.proofs.Pushing.{both, group_3, last, same_added}
use Rattle.strc_emit_program.proofs.fires.push_work.Goals as goal

pub returns : goal.returns
returns c =
    let begun = c.args.text.now.items in
    let p1 : List ℕ = entry_text c.args.network.now c.args.phase c.args.node c.args.code.now in
    let p2 : List ℕ = codes "        int cause = work" in
    let p3 : List ℕ = decimal c.args.node in
    let p4 : List ℕ = codes "(" in
    let so_far_2 : c.push_pieces.new.text.items ≡ begun ++ (((p1 ++ p2) ++ p3) ++ p4) =
    same_added begun c.push_pieces.new.text.items (p1 ++ (p2 ++ (p3 ++ p4))) (((p1 ++ p2) ++ p3)
    ++ p4) (both begun c.push_entry.new.text.items c.push_pieces.new.text.items p1 (p2 ++ (p3 ++
    p4)) c.in_ok-push_entry.ensures c.in_ok-push_pieces.ensures) (group_3 p1 p2 p3 p4) in
    let p5 : List ℕ = pointer_text (taken_at c.args.network.now c.args.phase c.args.node 0) in
    let so_far_3 : c.push_pointer.new.text.items ≡ begun ++ ((((p1 ++ p2) ++ p3) ++ p4) ++ p5) =
    both begun c.push_pieces.new.text.items c.push_pointer.new.text.items (((p1 ++ p2) ++ p3) ++
    p4) p5 so_far_2 (c.in_ok-push_pointer.ensures ∙ ap (λ items. c.push_pieces.new.text.items ++
    pointer_text items) c.taken_at.ensures.items) in
    let p6 : List ℕ = codes ", " in
    let so_far_4 : c.push_pieces-2.new.text.items ≡ begun ++ (((((p1 ++ p2) ++ p3) ++ p4) ++ p5)
    ++ p6) = both begun c.push_pointer.new.text.items c.push_pieces-2.new.text.items ((((p1 ++
    p2) ++ p3) ++ p4) ++ p5) p6 so_far_3 c.in_ok-push_pieces-2.ensures in
    let p7 : List ℕ = pointer_text (given_at c.args.network.now c.args.phase c.args.node 0) in
    let so_far_5 : c.push_pointer-2.new.text.items ≡ begun ++ ((((((p1 ++ p2) ++ p3) ++ p4) ++
    p5) ++ p6) ++ p7) = both begun c.push_pieces-2.new.text.items c.push_pointer-2.new.text.items
    (((((p1 ++ p2) ++ p3) ++ p4) ++ p5) ++ p6) p7 so_far_4 (c.in_ok-push_pointer-2.ensures ∙ ap
    (λ items. c.push_pieces-2.new.text.items ++ pointer_text items) c.given_at.ensures.items) in
    let p8 : List ℕ = codes ");\n        if (cause != NO_FAULT) fault(cause, " in
    let p9 : List ℕ = decimal c.args.node in
    let p10 : List ℕ = codes ", " in
    let so_far_6 : c.push_pieces-3.new.text.items ≡ begun ++ (((((((((p1 ++ p2) ++ p3) ++ p4) ++
    p5) ++ p6) ++ p7) ++ p8) ++ p9) ++ p10) = same_added begun c.push_pieces-3.new.text.items
    (((((((p1 ++ p2) ++ p3) ++ p4) ++ p5) ++ p6) ++ p7) ++ (p8 ++ (p9 ++ p10))) (((((((((p1 ++
    p2) ++ p3) ++ p4) ++ p5) ++ p6) ++ p7) ++ p8) ++ p9) ++ p10) (both begun
    c.push_pointer-2.new.text.items c.push_pieces-3.new.text.items ((((((p1 ++ p2) ++ p3) ++ p4)
    ++ p5) ++ p6) ++ p7) (p8 ++ (p9 ++ p10)) so_far_5 c.in_ok-push_pieces-3.ensures) (group_3
    ((((((p1 ++ p2) ++ p3) ++ p4) ++ p5) ++ p6) ++ p7) p8 p9 p10) in
    let p11 : List ℕ = number_text c.args.network.now c.args.phase c.args.node in
    let so_far_7 : c.push_number.new.text.items ≡ begun ++ ((((((((((p1 ++ p2) ++ p3) ++ p4) ++
    p5) ++ p6) ++ p7) ++ p8) ++ p9) ++ p10) ++ p11) = both begun c.push_pieces-3.new.text.items
    c.push_number.new.text.items (((((((((p1 ++ p2) ++ p3) ++ p4) ++ p5) ++ p6) ++ p7) ++ p8) ++
    p9) ++ p10) p11 so_far_6 c.in_ok-push_number.ensures in
    let p12 : List ℕ = codes ");\n" in
    last c.push_pieces-4.result begun c.push_number.new.text.items c.push_pieces-4.new.text.items
    ((((((((((p1 ++ p2) ++ p3) ++ p4) ++ p5) ++ p6) ++ p7) ++ p8) ++ p9) ++ p10) ++ p11) p12
    so_far_7 c.push_pieces-4.ensures
