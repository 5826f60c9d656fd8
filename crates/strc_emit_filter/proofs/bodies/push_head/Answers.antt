use Rattle.std.proofs.Common.{List, ℕ, ◌≡◌, ◌++◌, codes, decimal}
use Rattle.std.proofs.Common.{subst}
use Rattle.std.specs.Prelude.{OnOk}
use Rattle.strc_emit_text.proofs.Pushing.{group_4, same_piece}
use Rattle.strc_emit_filter.proofs.bodies.push_head.Goals as goal

pub returns : goal.returns
returns c =
    let begun = c.args.text.now.items in
    let p1 : List ℕ = codes "static int " in
    let p2 : List ℕ = c.args.name.now in
    let p3 : List ℕ = decimal c.args.node in
    let p4 : List ℕ = codes "(const int32_t *in, int32_t *out) {\n" in
    let p5 : List ℕ = codes "    int32_t popped = 0, pushed = 0;\n" in
    same_piece c.push_pieces.result begun c.push_pieces.new.text.items (p1 ++ (p2 ++ (p3 ++ (p4
    ++ p5)))) ((((p1 ++ p2) ++ p3) ++ p4) ++ p5) (subst (λ number. OnOk c.push_pieces.result
    (c.push_pieces.new.text.items ≡ begun ++ (p1 ++ (p2 ++ (decimal number ++ (p4 ++ p5))))))
    c.from.ensures c.push_pieces.ensures) (group_4 p1 p2 p3 p4 p5)
