use Rattle.std.proofs.Common.{◌≡◌, [], sym, ap, ◌∙◌, subst, IfOk}
use Rattle.strc_cli_statements.specs.Statements.{uncounted_in, uncounted_among}
use Rattle.strc_cli_statements.proofs.Uncounted.{none_uncounted, uncounted_is, uncounted_in-Block}
use Rattle.strc_cli_statements.proofs.count_places.+uncounted.Goals as goal

pub uncounted-returns-then-branch : goal.uncounted-returns-then-branch
uncounted-returns-then-branch t c =
    sym (none_uncounted c.args.here c.args.block.now
    (sym c.in_ok-are_counted.ensures ∙ c.if-branch.true))

pub uncounted-returns-in-Some : goal.uncounted-returns-in-Some
uncounted-returns-in-Some t c =
    let n = c.in_ok-first_uncounted.field-0 in
    let x = c.in-Some.statement.now in
    let lookup = c.in-Some.ensures.lookup in
    let found = uncounted_is c.args.here [] c.args.block.now n x lookup.3.0 lookup.1
    c.in_ok-first_uncounted.ensures.before c.in_ok-first_uncounted.ensures.with in
    subst (λ v. IfOk c.uncounted_in.result (λ place. place ≡ v)) (sym found)
    c.uncounted_in.ensures

pub uncounted_in-returns-in-Block : goal.uncounted_in-returns-in-Block
uncounted_in-returns-in-Block t c =
    let here = c.args.here in
    let same = ap (uncounted_among here) c.deref-in-Block.ensures.value
    ∙ sym (uncounted_in-Block here c.in-Block.block)
    ∙ ap (uncounted_in here) (sym c.in-Block.is) in
    subst (λ v. IfOk c.uncounted.result (λ place. place ≡ v)) same c.uncounted.ensures
