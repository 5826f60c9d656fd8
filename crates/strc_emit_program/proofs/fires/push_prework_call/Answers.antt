use Rattle.std.proofs.Common.{List, ℕ, ◌≡◌, ◌++◌, ◌∙◌, ap, codes, decimal}
use Rattle.strc_emit_program.specs.Fires.{first_entry_text, source_text, target_text}
use Rattle.strc_emit_moves.specs.Places.{given_at, taken_at}
use Rattle.strc_emit_moves.specs.declared.places.Phase.TheVariants as phase
use Rattle.strc_emit_text.proofs.Pushing.{both, group_3, last, same_added, same_piece}
use Rattle.strc_emit_program.proofs.fires.push_prework_call.Goals as goal

pub returns : goal.returns
returns c =
    let begun = c.args.text.now.items in
    let p1 : List ℕ = codes "    if (from == 0) {\n" in
    let p2 : List ℕ = first_entry_text c.args.node c.args.code.now in
    let so_far_2 : c.push_first_entry.new.text.items ≡ begun ++ (p1 ++ p2) = both begun
    c.push_pieces.new.text.items c.push_first_entry.new.text.items p1 p2
    c.in_ok-push_pieces.ensures c.in_ok-push_first_entry.ensures in
    let p3 : List ℕ = codes "        int cause = prework" in
    let p4 : List ℕ = decimal c.args.node in
    let p5 : List ℕ = codes "(" in
    let so_far_3 : c.push_pieces-2.new.text.items ≡ begun ++ ((((p1 ++ p2) ++ p3) ++ p4) ++ p5) =
    same_added begun c.push_pieces-2.new.text.items ((p1 ++ p2) ++ (p3 ++ (p4 ++ p5))) ((((p1 ++
    p2) ++ p3) ++ p4) ++ p5) (both begun c.push_first_entry.new.text.items
    c.push_pieces-2.new.text.items (p1 ++ p2) (p3 ++ (p4 ++ p5)) so_far_2
    c.in_ok-push_pieces-2.ensures) (group_3 (p1 ++ p2) p3 p4 p5) in
    let p6 : List ℕ = source_text (taken_at c.args.network.now phase.Startup c.args.node 0) in
    let so_far_4 : c.push_source.new.text.items ≡ begun ++ (((((p1 ++ p2) ++ p3) ++ p4) ++ p5) ++
    p6) = both begun c.push_pieces-2.new.text.items c.push_source.new.text.items ((((p1 ++ p2) ++
    p3) ++ p4) ++ p5) p6 so_far_3 (c.in_ok-push_source.ensures ∙ ap (λ items.
    c.push_pieces-2.new.text.items ++ source_text items) c.taken_at.ensures.items) in
    let p7 : List ℕ = codes ", " in
    let so_far_5 : c.push_pieces-3.new.text.items ≡ begun ++ ((((((p1 ++ p2) ++ p3) ++ p4) ++ p5)
    ++ p6) ++ p7) = both begun c.push_source.new.text.items c.push_pieces-3.new.text.items
    (((((p1 ++ p2) ++ p3) ++ p4) ++ p5) ++ p6) p7 so_far_4 c.in_ok-push_pieces-3.ensures in
    let p8 : List ℕ = target_text c.args.network.now (given_at c.args.network.now phase.Startup
    c.args.node 0) in
    let so_far_6 : c.push_target.new.text.items ≡ begun ++ (((((((p1 ++ p2) ++ p3) ++ p4) ++ p5)
    ++ p6) ++ p7) ++ p8) = both begun c.push_pieces-3.new.text.items c.push_target.new.text.items
    ((((((p1 ++ p2) ++ p3) ++ p4) ++ p5) ++ p6) ++ p7) p8 so_far_5 (c.in_ok-push_target.ensures ∙
    ap (λ items. c.push_pieces-3.new.text.items ++ target_text c.args.network.now items)
    c.given_at.ensures.items) in
    let p9 : List ℕ = codes ");\n        if (cause != NO_FAULT) fault(cause, " in
    let p10 : List ℕ = decimal c.args.node in
    let p11 : List ℕ = codes ", 0);\n        from = 1;\n    }\n" in
    same_piece c.push_pieces-4.result begun c.push_pieces-4.new.text.items ((((((((p1 ++ p2) ++
    p3) ++ p4) ++ p5) ++ p6) ++ p7) ++ p8) ++ (p9 ++ (p10 ++ p11))) ((((((((((p1 ++ p2) ++ p3) ++
    p4) ++ p5) ++ p6) ++ p7) ++ p8) ++ p9) ++ p10) ++ p11) (last c.push_pieces-4.result begun
    c.push_target.new.text.items c.push_pieces-4.new.text.items (((((((p1 ++ p2) ++ p3) ++ p4) ++
    p5) ++ p6) ++ p7) ++ p8) (p9 ++ (p10 ++ p11)) so_far_6 c.push_pieces-4.ensures) (group_3
    (((((((p1 ++ p2) ++ p3) ++ p4) ++ p5) ++ p6) ++ p7) ++ p8) p9 p10 p11)
