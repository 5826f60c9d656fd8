use Rattle.std.proofs.Common.{◌+◌, List, ℕ, ◌≡◌, ◌++◌, ◌∙◌, ap, codes}
use Rattle.strc_emit_c.specs.Spelling.{slot_text}
use Rattle.strc_emit_text.proofs.Pushing.{both, last}
use Rattle.strc_emit_filter.proofs.helpers.push_value.Goals as goal

pub returns : goal.returns
returns c =
    let begun = c.args.text.now.items in
    let p1 : List ℕ = codes "    depth = depth - 1;\n    return " in
    let p2 : List ℕ = slot_text c.args.function.now (c.args.function.now.fields + 1) in
    let so_far_2 : c.push_slot.new.text.items ≡ begun ++ (p1 ++ p2) = both begun
    c.push_bytes.new.text.items c.push_slot.new.text.items p1 p2 c.in_ok-push_bytes.ensures
    (c.in_ok-push_slot.ensures ∙ ap (λ slot. c.push_bytes.new.text.items ++ slot_text
    c.args.function.now slot) c.in_ok-slot.ensures) in
    let p3 : List ℕ = codes ";\n}\n" in
    last c.push_bytes-2.result begun c.push_slot.new.text.items c.push_bytes-2.new.text.items (p1
    ++ p2) p3 so_far_2 c.push_bytes-2.ensures
