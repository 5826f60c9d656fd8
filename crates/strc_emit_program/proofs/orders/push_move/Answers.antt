use Rattle.std.proofs.Common.{List, ℕ, ◌++◌, codes, decimal}
use Rattle.strc_emit_text.proofs.Pushing.{group_6, same_piece}
use Rattle.strc_emit_program.proofs.orders.push_move.Goals as goal

pub returns : goal.returns
returns c =
    let begun = c.args.text.now.items in
    let p1 : List ℕ = codes "    slide(c" in
    let p2 : List ℕ = decimal c.args.channel in
    let p3 : List ℕ = codes ", " in
    let p4 : List ℕ = decimal c.args.gone in
    let p5 : List ℕ = codes ", " in
    let p6 : List ℕ = decimal c.args.left in
    let p7 : List ℕ = codes ");\n" in
    same_piece c.push_pieces.result begun c.push_pieces.new.text.items (p1 ++ (p2 ++ (p3 ++ (p4
    ++ (p5 ++ (p6 ++ p7)))))) ((((((p1 ++ p2) ++ p3) ++ p4) ++ p5) ++ p6) ++ p7)
    c.push_pieces.ensures (group_6 p1 p2 p3 p4 p5 p6 p7)
