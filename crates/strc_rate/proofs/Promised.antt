-- What is promised of a filter whose rates are checked is promised where `check` answers Ok.
use Rattle.std.proofs.Common.{subst, Result, Ok, Err, IfOk}
use Rattle.strc_work_meaning.specs.Filters.{Filter}
use Rattle.strc_rate.specs.Rates.{FilterRates, checked}
use Rattle.strc_rate.specs.Verdicts.{IsVerdict, rates_view}
use Rattle.strc_rate.specs.declared.rates.Rates.{Rates}
use Rattle.strc_rate.specs.declared.rates.RateError.{RateError}

pub promised : (filter : Filter) (promise : FilterRates → Type 0) (result : Result Rates RateError)
    → IfOk (checked filter) promise → IsVerdict rates_view (checked filter) result
    → IfOk result (λ rates. promise (rates_view rates))
promised filter promise (Ok rates) holds verdict =
    subst (λ (r : Result FilterRates RateError). IfOk r promise) verdict holds
promised filter promise (Err broken) holds verdict = tt
