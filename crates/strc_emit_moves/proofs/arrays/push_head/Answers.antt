use Rattle.std.proofs.Common.{List, ℕ, ◌++◌, codes, decimal}
use Rattle.strc_emit_text.proofs.Pushing.{group_4, same_piece}
use Rattle.strc_emit_moves.proofs.arrays.push_head.Goals as goal

pub returns : goal.returns
returns c =
    let begun = c.args.text.now.items in
    let p1 : List ℕ = codes "static int32_t c" in
    let p2 : List ℕ = decimal c.args.channel in
    let p3 : List ℕ = codes "[" in
    let p4 : List ℕ = decimal c.args.room in
    let p5 : List ℕ = codes "]" in
    same_piece c.push_pieces.result begun c.push_pieces.new.text.items (p1 ++ (p2 ++ (p3 ++ (p4
    ++ p5)))) ((((p1 ++ p2) ++ p3) ++ p4) ++ p5) c.push_pieces.ensures (group_4 p1 p2 p3 p4 p5)
