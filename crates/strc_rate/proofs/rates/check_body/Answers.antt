use Rattle.std.proofs.Common.{◌≡◌, sym, subst, not, ◌||◌, false, [], Some, Ok, rules}
use Rattle.strc_work_meaning.specs.Filters.{filter_of, body_rates, body_block, push_rate, pop_rate}
use Rattle.strc_work_meaning.specs.Filters.{item_count, window_size}
use Rattle.strc_rate.specs.Counts.{stmts_counts}
use Rattle.strc_rate.specs.Peeks.{body_sights}
use Rattle.strc_rate.specs.Rates.{are_within_limit, same_rate}
use Rattle.strc_rate.specs.Verdicts.{IsVerdict, body_view}
use Rattle.strc_rate.proofs.Checking.{body_accepted}
use Rattle.strc_rate.proofs.rates.check_body.Goals as goal

pub returns-in-Some : goal.returns-in-Some
returns-in-Some c =
    let members = (filter_of c.args.code.now).members in
    let rates = body_rates c.args.body members in
    let block = body_block c.args.body members in
    let counts = c.in-Some.counts in
    let limits : (not (are_within_limit rates) || c.args.lacks) ≡ false = search rules in
    let counted : stmts_counts [] block ≡ Some counts = search rules in
    let known : body_sights (window_size rates) block ≡ c.deref.result.now = search rules in
    let pushes : same_rate (item_count (push_rate rates)) counts.pushes ≡ Ok tt = search rules in
    let pops : same_rate (item_count (pop_rate rates)) counts.pops ≡ Ok tt = search rules in
    record {
      verdict = subst (λ r. IsVerdict body_view r c.with_closed_peeks.result)
          (sym
          (body_accepted c.args.lacks rates block counts c.deref.result.now limits counted known
          pushes pops)) c.with_closed_peeks.ensures.verdict;
    }
