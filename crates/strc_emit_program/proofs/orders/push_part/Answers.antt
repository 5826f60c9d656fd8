use Rattle.std.proofs.Common.{List, ℕ, ◌≡◌, ◌++◌, ◌∙◌, ap, codes, decimal}
use Rattle.strc_emit_text.specs.Texts.{texts_below}
use Rattle.strc_emit_program.specs.Orders.{call_at, order_name}
use Rattle.strc_emit_program.specs.declared.orders.TheConstants.{PART}
use Rattle.strc_emit_text.proofs.Pushing.{both, group_4, last, same_added}
use Rattle.strc_emit_program.proofs.orders.push_part.Goals as goal

pub returns : goal.returns
returns c =
    let begun = c.args.text.now.items in
    let p1 : List ℕ = codes "\nstatic APART void " in
    let p2 : List ℕ = order_name c.args.phase in
    let p3 : List ℕ = codes "_part" in
    let p4 : List ℕ = decimal c.args.part in
    let p5 : List ℕ = codes "(void) {\n" in
    let so_far_1 : c.push_pieces.new.text.items ≡ begun ++ ((((p1 ++ p2) ++ p3) ++ p4) ++ p5) =
    same_added begun c.push_pieces.new.text.items (p1 ++ (p2 ++ (p3 ++ (p4 ++ p5)))) ((((p1 ++
    p2) ++ p3) ++ p4) ++ p5) (c.in_ok-push_pieces.ensures ∙ ap (λ (l : List ℕ). begun ++ (p1 ++
    (l ++ (p3 ++ (p4 ++ p5))))) c.order_name.ensures) (group_4 p1 p2 p3 p4 p5) in
    let p6 : List ℕ = texts_below (call_at c.args.phase c.args.calls.now c.args.part) PART in
    let so_far_2 : c.push_calls.new.text.items ≡ begun ++ (((((p1 ++ p2) ++ p3) ++ p4) ++ p5) ++
    p6) = both begun c.push_pieces.new.text.items c.push_calls.new.text.items ((((p1 ++ p2) ++
    p3) ++ p4) ++ p5) p6 so_far_1 c.in_ok-push_calls.ensures in
    let p7 : List ℕ = codes "}\n" in
    last c.push_pieces-2.result begun c.push_calls.new.text.items c.push_pieces-2.new.text.items
    (((((p1 ++ p2) ++ p3) ++ p4) ++ p5) ++ p6) p7 so_far_2 c.push_pieces-2.ensures
