use Rattle.std.proofs.Common.{List, ℕ, ◌≡◌, ◌++◌, ◌∙◌, ap, codes, decimal}
use Rattle.strc_emit_program.specs.Fires.{fire_name, first_text, firing_text}
use Rattle.strc_emit_text.proofs.Pushing.{both, group_3, last, same_added}
use Rattle.strc_emit_program.proofs.fires.push_fires.Goals as goal

pub returns : goal.returns
returns c =
    let begun = c.args.text.now.items in
    let p1 : List ℕ = codes "static void " in
    let p2 : List ℕ = fire_name c.args.phase in
    let p3 : List ℕ = decimal c.args.node in
    let p4 : List ℕ = codes "(int32_t from, int32_t to) {\n" in
    let so_far_1 : c.push_pieces.new.text.items ≡ begun ++ (((p1 ++ p2) ++ p3) ++ p4) =
    same_added begun c.push_pieces.new.text.items (p1 ++ (p2 ++ (p3 ++ p4))) (((p1 ++ p2) ++ p3)
    ++ p4) (c.in_ok-push_pieces.ensures ∙ ap (λ (l : List ℕ). begun ++ (p1 ++ (l ++ (p3 ++ p4))))
    c.fire_name.ensures) (group_3 p1 p2 p3 p4) in
    let p5 : List ℕ = first_text c.args.network.now c.args.phase c.args.node c.args.code.now in
    let so_far_2 : c.push_first.new.text.items ≡ begun ++ ((((p1 ++ p2) ++ p3) ++ p4) ++ p5) =
    both begun c.push_pieces.new.text.items c.push_first.new.text.items (((p1 ++ p2) ++ p3) ++
    p4) p5 so_far_1 c.in_ok-push_first.ensures in
    let p6 : List ℕ = codes "    for (int32_t i = from; i < to; i++) {\n" in
    let so_far_3 : c.push_pieces-2.new.text.items ≡ begun ++ (((((p1 ++ p2) ++ p3) ++ p4) ++ p5)
    ++ p6) = both begun c.push_first.new.text.items c.push_pieces-2.new.text.items ((((p1 ++ p2)
    ++ p3) ++ p4) ++ p5) p6 so_far_2 c.in_ok-push_pieces-2.ensures in
    let p7 : List ℕ = firing_text c.args.network.now c.args.phase c.args.node c.args.code.now in
    let so_far_4 : c.push_firing.new.text.items ≡ begun ++ ((((((p1 ++ p2) ++ p3) ++ p4) ++ p5)
    ++ p6) ++ p7) = both begun c.push_pieces-2.new.text.items c.push_firing.new.text.items
    (((((p1 ++ p2) ++ p3) ++ p4) ++ p5) ++ p6) p7 so_far_3 c.in_ok-push_firing.ensures in
    let p8 : List ℕ = codes "    }\n}\n" in
    last c.push_pieces-3.result begun c.push_firing.new.text.items c.push_pieces-3.new.text.items
    ((((((p1 ++ p2) ++ p3) ++ p4) ++ p5) ++ p6) ++ p7) p8 so_far_4 c.push_pieces-3.ensures
