use Rattle.std.proofs.Common.{List, ℕ, ◌≡◌, ◌++◌, codes, decimal}
use Rattle.std.proofs.Common.{Option, length, subst}
use Rattle.std.specs.Prelude.{OnOk}
use Rattle.strc_emit_program.specs.Programs.{reader_from, reader_text}
use Rattle.strc_emit_text.proofs.Pushing.{group_2, last, same_added}
use Rattle.strc_emit_program.proofs.program.push_numbers.Goals as goal

pub returns : goal.returns
returns c =
    let begun = c.args.text.now.items in
    let p1 : List ℕ = codes "enum { NODES = " in
    let p2 : List ℕ = decimal (length c.args.network.now.nodes.now) in
    let p3 : List ℕ = codes " };\n" in
    let so_far_1 : c.push_pieces.new.text.items ≡ begun ++ ((p1 ++ p2) ++ p3) = same_added begun
    c.push_pieces.new.text.items (p1 ++ (p2 ++ p3)) ((p1 ++ p2) ++ p3)
    c.in_ok-push_pieces.ensures (group_2 p1 p2 p3) in
    let p4 : List ℕ = reader_text c.args.network.now (reader_from 0 c.args.network.now.nodes.now)
    in
    last c.push_reader.result begun c.push_pieces.new.text.items c.push_reader.new.text.items
    ((p1 ++ p2) ++ p3) p4 so_far_1 (subst (λ (found : Option ℕ). OnOk c.push_reader.result
    (c.push_reader.new.text.items ≡ c.push_pieces.new.text.items ++ reader_text
    c.args.network.now found)) c.reader_among.ensures c.push_reader.ensures)
