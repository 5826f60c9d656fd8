use Rattle.std.proofs.Common.{List, ℕ, ◌++◌, codes}
use Rattle.strc_emit_text.proofs.Pushing.{group_4, same_piece}
use Rattle.strc_emit_filter.proofs.helpers.push_entry.Goals as goal

pub returns : goal.returns
returns c =
    let begun = c.args.text.now.items in
    let p1 : List ℕ = codes " {\n    if (depth >= CALL_LIMIT) leave(CALLS);\n" in
    let p2 : List ℕ = codes "    if (turns >= TURN_LIMIT) leave(TURNS);\n" in
    let p3 : List ℕ = codes "    turns = turns + 1;\n    depth = depth + 1;\n" in
    let p4 : List ℕ = codes "    const int32_t *in = nothing;\n    int32_t *out = nothing;\n" in
    let p5 : List ℕ = codes "    int32_t popped = 0, pushed = 0;\n" in
    same_piece c.push_pieces.result begun c.push_pieces.new.text.items (p1 ++ (p2 ++ (p3 ++ (p4
    ++ p5)))) ((((p1 ++ p2) ++ p3) ++ p4) ++ p5) c.push_pieces.ensures (group_4 p1 p2 p3 p4 p5)
