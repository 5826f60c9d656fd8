use Rattle.std.proofs.Common.{List, ℕ, ◌≡◌, ◌++◌, codes}
use Rattle.std.specs.Prelude.{length}
use Rattle.strc_emit_text.specs.Texts.{texts_below}
use Rattle.strc_emit_program.specs.Programs.{tape_at}
use Rattle.strc_emit_text.proofs.Pushing.{both, group_2, last, same_piece}
use Rattle.strc_emit_program.proofs.program.push_tapes.Goals as goal

pub returns : goal.returns
returns c =
    let begun = c.args.text.now.items in
    let p1 : List ℕ = codes "static const struct {\n    uint32_t node;\n    const char *name;\n"
    in
    let p2 : List ℕ = codes "} tape_nodes[] = {\n" in
    let p3 : List ℕ = texts_below (tape_at c.args.graph.now.nodes) (length
    c.args.graph.now.nodes) in
    let so_far_2 : c.push_tape_nodes.new.text.items ≡ begun ++ ((p1 ++ p2) ++ p3) = both begun
    c.push_pieces.new.text.items c.push_tape_nodes.new.text.items (p1 ++ p2) p3
    c.in_ok-push_pieces.ensures c.in_ok-push_tape_nodes.ensures in
    let p4 : List ℕ = codes "    {0, \"\"},\n};\n" in
    let p5 : List ℕ = codes "enum { TAPES = sizeof tape_nodes / sizeof *tape_nodes - 1 };\n" in
    same_piece c.push_pieces-2.result begun c.push_pieces-2.new.text.items (((p1 ++ p2) ++ p3) ++
    (p4 ++ p5)) ((((p1 ++ p2) ++ p3) ++ p4) ++ p5) (last c.push_pieces-2.result begun
    c.push_tape_nodes.new.text.items c.push_pieces-2.new.text.items ((p1 ++ p2) ++ p3) (p4 ++ p5)
    so_far_2 c.push_pieces-2.ensures) (group_2 ((p1 ++ p2) ++ p3) p4 p5)
