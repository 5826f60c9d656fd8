use Rattle.std.proofs.Common.{List, ℕ, ◌++◌, codes, decimal}
use Rattle.strc_emit_text.proofs.Pushing.{group_2, same_piece}
use Rattle.strc_emit_program.proofs.fires.push_first_enter.Goals as goal

pub returns : goal.returns
returns c =
    let begun = c.args.text.now.items in
    let p1 : List ℕ = codes "        enter(" in
    let p2 : List ℕ = decimal c.args.node in
    let p3 : List ℕ = codes ", 0);\n" in
    same_piece c.push_pieces.result begun c.push_pieces.new.text.items (p1 ++ (p2 ++ p3)) ((p1 ++
    p2) ++ p3) c.push_pieces.ensures (group_2 p1 p2 p3)
