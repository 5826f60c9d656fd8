use Rattle.std.proofs.Common.{List, ℕ, ◌≡◌, ◌++◌, codes}
use Rattle.std.proofs.Common.{rules}
use Rattle.std.specs.Prelude.{OnOk}
use Rattle.strc_emit_c.specs.Spelling.{name_text}
use Rattle.strc_emit_filter.specs.Variables.{initial_text}
use Rattle.strc_emit_text.proofs.Pushing.{both, last}
use Rattle.strc_emit_filter.proofs.fields.push_plain.Goals as goal

pub returns : goal.returns
returns c =
    let begun = c.args.text.now.items in
    let p1 : List ℕ = codes "static int32_t " in
    let p2 : List ℕ = name_text c.args.function.now c.args.slot in
    let so_far_2 : c.push_name.new.text.items ≡ begun ++ (p1 ++ p2) = both begun
    c.push_bytes.new.text.items c.push_name.new.text.items p1 p2 c.in_ok-push_bytes.ensures
    c.in_ok-push_name.ensures in
    let p3 : List ℕ = initial_text c.args.value in
    let written : OnOk c.push_initial.result (c.push_initial.new.text.items
    ≡ c.push_name.new.text.items ++ p3) = search rules in
    last c.push_initial.result begun c.push_name.new.text.items c.push_initial.new.text.items (p1
    ++ p2) p3 so_far_2 written
