-- What is known of a filter whose rates are checked.
use Rattle.std.proofs.Common.{◌≡◌, refl, ℕ, Bool, true, false, Result, Ok, Err}
use Rattle.std.specs.Prelude.{if◌then◌else◌, ◌||◌, Option}
use Rattle.strc_rate.specs.Rates.{BodyRates, FilterRates, then_work}
use Rattle.strc_rate.specs.declared.rates.RateError.{RateError}
use Rattle.strc_rate.specs.declared.rates.RateError.TheVariants.{RateLimit}
use Rattle.strc_run_refusal.specs.declared.refusal.Refusal.{Refusal}
use Rattle.strc_run.specs.Rates.{filter_checked, then_check}

pub neither : (a b : Bool) → (a || b) ≡ false → (a ≡ false) × (b ≡ false)
neither true b e = absurd (cc)
neither false b e = (refl, e)

-- a node that is checked, and those after it
pub node_ok : (one next : Result (Unit {0}) Refusal) → then_check one next ≡ Ok tt
    → (one ≡ Ok tt) × (next ≡ Ok tt)
node_ok (Ok tt) next e = (refl, e)
node_ok (Err broken) next e = absurd (cc)

-- the rates of a filter that is checked
pub filter_ok : (node : ℕ) (one : Result FilterRates RateError) → filter_checked node one ≡ Ok tt
    → (found : FilterRates) × (one ≡ Ok found)
filter_ok node (Ok found) e = (found, refl)
filter_ok node (Err broken) e = absurd (cc)

-- the work of a filter that is checked
pub work_ok : (prework : Result (Option BodyRates) RateError) (work : Result BodyRates RateError)
    (found : FilterRates) → then_work prework work ≡ Ok found
    → (here : BodyRates) × (work ≡ Ok here)
work_ok (Ok prework) (Ok here) found e = (here, refl)
work_ok (Ok prework) (Err broken) found e = absurd (cc)
work_ok (Err broken) work found e = absurd (cc)

-- lacks no rate
pub lacks_none : (past lacks : Bool) (next : Result BodyRates RateError) (here : BodyRates)
    → (if past || lacks then Err RateLimit else next) ≡ Ok here → lacks ≡ false
lacks_none true lacks next here e = absurd (cc)
lacks_none false true next here e = absurd (cc)
lacks_none false false next here e = refl
