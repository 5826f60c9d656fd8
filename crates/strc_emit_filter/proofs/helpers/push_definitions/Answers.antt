use Rattle.std.proofs.Common.{◌≡◌, ◌∙◌, ◌+◌, ◌++◌, ◌∷◌, ℕ, List, ap, drop, sym}
use Rattle.std.proofs.lemmas.List.{drop_more}
use Rattle.strc_work_code.specs.declared.helper.HelperCode.{HelperCode}
use Rattle.strc_emit_filter.specs.Helpers.{definition_text, definitions_from}
use Rattle.strc_emit_text.proofs.Pushing.{piece_more}
use Rattle.strc_emit_filter.proofs.helpers.push_definitions.Goals as goal

pub loop-helper-preserved : goal.loop-helper-preserved
loop-helper-preserved c =
    let function = c.args.function.now in
    let helpers = c.args.helpers.now in
    let at = c.loop-helper.helper-index in
    let number = c.loop-helper.number in
    let helper : HelperCode = c.helper-item.result in
    let piece : List ℕ = definition_text function number helper in
    let rest : List ℕ = definitions_from function c.in_ok-number.number (drop (at + 1) helpers) in
    let first : definitions_from function number (drop at helpers) ≡ piece ++ rest =
    ap (definitions_from function number) (drop_more helpers at helper c.loop-helper-test.true
    ∙ ap (λ (one : HelperCode). one ∷ drop (at + 1) helpers) (sym c.helper-item.is))
    ∙ ap (λ next. piece ++ definitions_from function next (drop (at + 1) helpers))
    (sym c.in_ok-number.ensures) in
    piece_more c.loop-helper.text.items piece c.push_definition.new.text.items rest
    (definitions_from function number (drop at helpers))
    (c.args.text.now.items ++ definitions_from function 0 helpers)
    c.in_ok-push_definition.ensures first c.loop-helper.invariant
