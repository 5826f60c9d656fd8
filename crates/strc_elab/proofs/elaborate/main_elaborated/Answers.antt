use Rattle.std.proofs.Common.{ℕ, map, subst, ◌∙◌}
use Rattle.strc_parse_tree.specs.Tree.{Declaration}
use Rattle.strc_parse_tree.specs.View.{declaration_view}
use Rattle.strc_elab.specs.Answering.{IsPlacedVerdict, IsPlaced}
use Rattle.strc_elab.specs.Sources.{text_source}
use Rattle.strc_elab.specs.Tasks.{elaborated_view, text_view}
use Rattle.strc_elab.proofs.Levels.{main_elaborated-task, main_place-task}
use Rattle.strc_elab.proofs.Mains.{numbered_source-at}
use Rattle.strc_elab.proofs.elaborate.main_elaborated.Goals as goal

pub returns-clause-verdict : goal.returns-clause-verdict
returns-clause-verdict c =
    let program = map declaration_view c.args.declarations.now in
    let found : ℕ × Declaration = (c.args.number, declaration_view c.args.declaration.now) in
    rw c.in_own_text.ensures
    (subst (λ elaborated. IsPlacedVerdict elaborated_view elaborated
    c.elaborate_text-answer.result)
    (main_elaborated-task program found c.new-constants.result
    (text_view c.text_of.result) c.new-constants.ensures c.text_of.ensures.view)
    c.elaborate_text-answer.ensures.verdict)

pub returns-clause-place : goal.returns-clause-place
returns-clause-place c =
    let declarations = c.args.declarations.now in
    rw c.in_own_text.ensures
    (subst (λ place. IsPlaced place c.elaborate_text-answer.result)
    (main_place-task declarations c.args.number c.new-constants.result
    (text_source c.text_of.result) c.new-constants.ensures (c.text_of.ensures.source
    ∙ numbered_source-at declarations c.args.number c.args.declaration.now c.requires.declared))
    c.elaborate_text-answer.ensures.place)
