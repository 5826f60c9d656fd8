use Rattle.std.proofs.Common.{◌≡◌, ◌∙◌, sym, ap, arith, get_or, ℕ}
use Rattle.strc_elab_statements.proofs.NameTables.{declared_found, declared_missing}
use Rattle.strc_elab_statements.proofs.declarations.declared.Goals as goal

pub returns-in-Some : goal.returns-in-Some
returns-in-Some c =
    let all = c.args.declarations.now in
    let x = c.index-declarations-number.result in
    let found = declared_found 0 all c.args.name.now c.in-Some.number
    (sym c.in-Some.ensures.place) in
    let place = found.place in
    let here : c.in-Some.number ≡ found.offset = omega (arith, place) in
    let at : x ≡ get_or all found.offset x =
    c.index-declarations-number.is ∙ ap (λ (k : ℕ). get_or all k x) here in
    sym (found.declared x at)

pub returns-in-None : goal.returns-in-None
returns-in-None c = sym (declared_missing 0 c.args.declarations.now c.args.name.now
    (sym c.in-None.ensures.place))
