use Rattle.std.proofs.Common.{List, ℕ, ◌≡◌, ◌++◌, codes, decimal}
use Rattle.strc_emit_c.specs.Spelling.{name_text}
use Rattle.strc_emit_text.specs.Numbers.{numbers_text}
use Rattle.strc_emit_text.proofs.Pushing.{both, last}
use Rattle.strc_emit_filter.proofs.fields.push_declared.Goals as goal

pub returns : goal.returns
returns c =
    let begun = c.args.text.now.items in
    let p1 : List ℕ = codes "static int32_t " in
    let p2 : List ℕ = name_text c.args.function.now c.args.slot in
    let so_far_2 : c.push_name.new.text.items ≡ begun ++ (p1 ++ p2) = both begun
    c.push_bytes.new.text.items c.push_name.new.text.items p1 p2 c.in_ok-push_bytes.ensures
    c.in_ok-push_name.ensures in
    let p3 : List ℕ = codes "[" in
    let so_far_3 : c.push_bytes-2.new.text.items ≡ begun ++ ((p1 ++ p2) ++ p3) = both begun
    c.push_name.new.text.items c.push_bytes-2.new.text.items (p1 ++ p2) p3 so_far_2
    c.in_ok-push_bytes-2.ensures in
    let p4 : List ℕ = decimal c.args.length in
    let so_far_4 : c.push_number.new.text.items ≡ begun ++ (((p1 ++ p2) ++ p3) ++ p4) = both
    begun c.push_bytes-2.new.text.items c.push_number.new.text.items ((p1 ++ p2) ++ p3) p4
    so_far_3 c.in_ok-push_number.ensures in
    let p5 : List ℕ = codes "]" in
    let so_far_5 : c.push_bytes-3.new.text.items ≡ begun ++ ((((p1 ++ p2) ++ p3) ++ p4) ++ p5) =
    both begun c.push_number.new.text.items c.push_bytes-3.new.text.items (((p1 ++ p2) ++ p3) ++
    p4) p5 so_far_4 c.in_ok-push_bytes-3.ensures in
    let p6 : List ℕ = numbers_text c.args.values.now in
    let so_far_6 : c.push_numbers.new.text.items ≡ begun ++ (((((p1 ++ p2) ++ p3) ++ p4) ++ p5)
    ++ p6) = both begun c.push_bytes-3.new.text.items c.push_numbers.new.text.items ((((p1 ++ p2)
    ++ p3) ++ p4) ++ p5) p6 so_far_5 c.in_ok-push_numbers.ensures in
    let p7 : List ℕ = codes ";\n" in
    last c.push_bytes-4.result begun c.push_numbers.new.text.items c.push_bytes-4.new.text.items
    (((((p1 ++ p2) ++ p3) ++ p4) ++ p5) ++ p6) p7 so_far_6 c.push_bytes-4.ensures
