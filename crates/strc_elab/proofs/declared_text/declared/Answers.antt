use Rattle.std.proofs.Common.{◌≡◌, ◌∙◌, Some, sym, ap, arith, get_or, ℕ}
use Rattle.strc_parse_tree.specs.View.{declaration_view}
use Rattle.strc_elab_statements.proofs.NameTables.{declared_found, declared_missing}
use Rattle.strc_elab.specs.Sources.{declaration_source}
use Rattle.strc_elab.proofs.Mains.{first_found}
use Rattle.strc_elab.proofs.declared_text.declared.Goals as goal

pub returns-in-Some-clause-found : goal.returns-in-Some-clause-found
returns-in-Some-clause-found c =
    let all = c.args.task.now.declarations.now in
    let x = c.index-task-number.result in
    let found = declared_found 0 all c.args.name.now c.in-Some.number
    (sym c.in-Some.ensures.place) in
    let place = found.place in
    let here : c.in-Some.number ≡ found.offset = omega (arith, place) in
    let at : x ≡ get_or all found.offset x =
    c.index-task-number.is ∙ ap (λ (k : ℕ). get_or all k x) here in
    ap (λ y. Some (c.in-Some.number, declaration_view y)) (sym c.index-task-number.is)
    ∙ sym (found.declared x at)

pub returns-in-Some-clause-source : goal.returns-in-Some-clause-source
returns-in-Some-clause-source c =
    let all = c.args.task.now.declarations.now in
    let x = c.index-task-number.result in
    let found = first_found 0 all c.args.name.now c.in-Some.number
    (sym c.in-Some.ensures.place) in
    let place = found.place in
    let here : c.in-Some.number ≡ found.offset = omega (arith, place) in
    let at : x ≡ get_or all found.offset x =
    c.index-task-number.is ∙ ap (λ (k : ℕ). get_or all k x) here in
    ap declaration_source (sym c.index-task-number.is) ∙ found.source x at

pub returns-in-None-clause-found : goal.returns-in-None-clause-found
returns-in-None-clause-found c =
    sym (declared_missing 0 c.args.task.now.declarations.now c.args.name.now
    (sym c.in-None.ensures.place))
