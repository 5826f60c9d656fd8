use Rattle.std.proofs.Common.{refl, inr}
use Rattle.std.proofs.lemmas.Result.{err_from_is_err_and}
use Rattle.strc_parse_grammar.proofs.sequence.with_next.Goals as goal

pub returns-in_err-push : goal.returns-in_err-push
returns-in_err-push g c =
    let p = err_from_is_err_and c.from_residual-in_err-push.result
    c.from_residual-in_err-push.ensures.1 in
    rw p.1 (inr (p.2, (c.in_ok-next.next, c.in_ok-next.was)))

pub returns : goal.returns
returns g c = (
  c.in_ok-next.next,
  c.in_ok-next.was,
  rw c.new.ensures c.in_ok-push.ensures.items,
  rw c.new.ensures c.max.ensures,
  rw c.new.ensures refl,
)
