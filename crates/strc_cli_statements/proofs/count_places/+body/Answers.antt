use Rattle.std.proofs.Common.{◌≡◌, sym, ap, ◌∙◌, subst, IfOk}
use Rattle.strc_cli_statements.specs.Statements.{are_counted, is_counted}
use Rattle.strc_cli_statements.proofs.Uncounted.{is_counted-Block}
use Rattle.strc_cli_statements.proofs.count_places.+body.Goals as goal

pub returns-in-Block : goal.returns-in-Block
returns-in-Block t c =
    let same = ap are_counted c.deref-in-Block.ensures.value
    ∙ sym (is_counted-Block c.in-Block.block) ∙ ap is_counted (sym c.in-Block.is) in
    subst (λ v. IfOk c.are_counted.result (λ counted. counted ≡ v)) same c.are_counted.ensures
