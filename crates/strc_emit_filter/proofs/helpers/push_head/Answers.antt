use Rattle.std.proofs.Common.{List, ℕ, ◌≡◌, ◌++◌, codes}
use Rattle.strc_emit_c.specs.Spelling.{helper_name}
use Rattle.strc_emit_filter.specs.Helpers.{parameters_text}
use Rattle.strc_emit_text.proofs.Pushing.{both, last}
use Rattle.strc_emit_filter.proofs.helpers.push_head.Goals as goal

pub returns : goal.returns
returns c =
    let begun = c.args.text.now.items in
    let p1 : List ℕ = codes "static int32_t " in
    let p2 : List ℕ = helper_name c.args.node c.args.number in
    let so_far_2 : c.push_helper.new.text.items ≡ begun ++ (p1 ++ p2) = both begun
    c.push_bytes.new.text.items c.push_helper.new.text.items p1 p2 c.in_ok-push_bytes.ensures
    c.in_ok-push_helper.ensures in
    let p3 : List ℕ = codes "(" in
    let so_far_3 : c.push_bytes-2.new.text.items ≡ begun ++ ((p1 ++ p2) ++ p3) = both begun
    c.push_helper.new.text.items c.push_bytes-2.new.text.items (p1 ++ p2) p3 so_far_2
    c.in_ok-push_bytes-2.ensures in
    let p4 : List ℕ = parameters_text c.args.parameters in
    let so_far_4 : c.push_parameters.new.text.items ≡ begun ++ (((p1 ++ p2) ++ p3) ++ p4) = both
    begun c.push_bytes-2.new.text.items c.push_parameters.new.text.items ((p1 ++ p2) ++ p3) p4
    so_far_3 c.in_ok-push_parameters.ensures in
    let p5 : List ℕ = codes ")" in
    last c.push_bytes-3.result begun c.push_parameters.new.text.items
    c.push_bytes-3.new.text.items (((p1 ++ p2) ++ p3) ++ p4) p5 so_far_4 c.push_bytes-3.ensures
