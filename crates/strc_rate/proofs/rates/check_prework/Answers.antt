use Rattle.std.proofs.Common.{sym, ap, ◌∙◌}
use Rattle.std.proofs.lemmas.Result.{err_from_is_err_and}
use Rattle.strc_work_meaning.specs.Filters.{filter_of}
use Rattle.strc_rate.specs.Rates.{some_prework}
use Rattle.strc_rate.proofs.Checking.{prework_there, refusal_of_prework, refusal_same}
use Rattle.strc_rate.proofs.rates.check_prework.Goals as goal

pub returns-in_err-prework : goal.returns-in_err-prework
returns-in_err-prework c =
    let members = (filter_of c.args.code.now).members in
    let p = err_from_is_err_and c.from_residual.result c.from_residual.ensures.1 in
    let e = c.in_err-prework.field-0.0 in
    let there = prework_there members (sym c.if-not-has_prework.ensures) in
    record {
      verdict = rw (p.1, p.2) (refusal_same _ _ e there
          (refusal_of_prework _ e c.in_err-prework.ensures.verdict));
    }

pub returns : goal.returns
returns c =
    let members = (filter_of c.args.code.now).members in
    record {
      verdict = prework_there members (sym c.if-not-has_prework.ensures)
          ∙ ap some_prework c.in_ok-prework.ensures.verdict;
    }
