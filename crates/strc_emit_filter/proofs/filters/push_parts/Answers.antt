use Rattle.std.proofs.Common.{List, ℕ, ◌≡◌, ◌++◌, ◌∙◌, codes}
use Rattle.std.proofs.Common.{length, option_map, subst}
use Rattle.std.specs.Prelude.{OnOk}
use Rattle.strc_emit_c.specs.declared.function.Function.{Function}
use Rattle.strc_emit_text.specs.Texts.{texts_below}
use Rattle.strc_emit_filter.specs.Variables.{field_text}
use Rattle.strc_emit_filter.specs.Helpers.{helpers_text}
use Rattle.strc_emit_filter.specs.Filters.{body_function, body_text, prework_text}
use Rattle.strc_emit_text.proofs.Pushing.{both, last}
use Rattle.strc_emit_filter.proofs.filters.push_parts.Goals as goal

pub returns : goal.returns
returns c =
    let begun = c.args.text.now.items in
    let p1 : List ℕ = texts_below (field_text c.args.function c.args.values.now) (length
    c.args.values.now) in
    let p2 : List ℕ = helpers_text c.args.function c.args.helpers.now in
    let so_far_2 : c.push_helpers.new.text.items ≡ begun ++ (p1 ++ p2) = both begun
    c.push_fields.new.text.items c.push_helpers.new.text.items p1 p2 c.in_ok-push_fields.ensures
    c.in_ok-push_helpers.ensures in
    let p3 : List ℕ = prework_text c.args.function c.args.tests c.args.alone (option_map (λ routine.
    routine.now) c.args.prework) in
    let so_far_3 : c.push_prework.new.text.items ≡ begun ++ ((p1 ++ p2) ++ p3) = both begun
    c.push_helpers.new.text.items c.push_prework.new.text.items (p1 ++ p2) p3 so_far_2
    (c.in_ok-function.ensures.text) in
    let p4 : List ℕ = body_text
    (body_function c.args.function c.args.tests c.args.work.now.limits) (codes "work") c.args.alone
    c.args.work.now.code in
    last c.push_body.result begun c.push_prework.new.text.items c.push_body.new.text.items ((p1
    ++ p2) ++ p3) p4 so_far_3 (subst (λ (other : Function). OnOk c.push_body.result
    (c.push_body.new.text.items ≡ c.push_prework.new.text.items ++ body_text other (codes "work")
    c.args.alone c.args.work.now.code)) (c.body_function-function.ensures ∙
    c.in_ok-function.ensures.function c.args.work.now.limits) c.push_body.ensures)
