-- What the tests of a body tell of the filter.
use Rattle.std.proofs.Common.{◌≡◌, true, false, List, [], ◌∷◌, Result, is_some, unwrap_or, refl, ap}
use Rattle.std.proofs.Common.{◌∙◌, Bool, false, not, ◌||◌, Some, Ok, Err}
use Rattle.std.specs.Prelude.{if◌then◌else◌}
use Rattle.strc_lex_names.specs.Results.{result_and_then}
use Rattle.strc_work_meaning.specs.Filters.{push_rate, pop_rate, item_count, window_size}
use Rattle.strc_rate.specs.declared.counts.Counts.{Counts}
use Rattle.strc_rate.specs.declared.sight.PeekBounds.{PeekBounds}
use Rattle.strc_rate.specs.Counts.{stmts_counts}
use Rattle.strc_rate.specs.Peeks.{body_sights}
use Rattle.strc_rate.specs.declared.rates.RateError.TheVariants.{RateLimit}
use Rattle.strc_rate.specs.Rates.{are_within_limit, same_rate, with_closed_peeks, counted}
use Rattle.strc_parse_tree.specs.Tree as tree
use Rattle.strc_work_meaning.specs.Filters.{work_block, work_rates, prework_block, prework_rates}
use Rattle.strc_work_meaning.specs.Filters.{body_block, body_rates}
use Rattle.strc_work_meaning.specs.declared.body.Body.TheVariants as body
use Rattle.strc_rate.specs.declared.rates.RateError.{RateError}
use Rattle.strc_rate.specs.declared.rates.RateError.TheVariants as broken
use Rattle.strc_rate.specs.Rates.{BodyRates, body_checked, some_prework, prework_checked}
use Rattle.strc_rate.specs.Verdicts.{IsRefusal}

there_before : (members : List tree.Member) (rates : List tree.Rate) (block : tree.Stmts)
    → is_some (prework_block members) ≡ true
    → prework_checked (prework_rates members) (prework_block members)
    ≡ some_prework (body_checked false (unwrap_or (prework_rates members) rates)
    (unwrap_or (prework_block members) block))
there_before [] rates block some = cc
there_before (tree.Fields kind variables ∷ rest) rates block some =
    there_before rest rates block some
there_before (tree.Init inner ∷ rest) rates block some = there_before rest rates block some
there_before (tree.Prework declared inner ∷ rest) rates block some = refl
there_before (tree.Work declared inner ∷ rest) rates block some = there_before rest rates block some
there_before (tree.Helper kind name parameters inner ∷ rest) rates block some =
    there_before rest rates block some

-- a prework that is there is the body of the first firing
pub prework_there : (members : List tree.Member) → is_some (prework_block members) ≡ true
    → prework_checked (prework_rates members) (prework_block members)
    ≡ some_prework (body_checked false (body_rates body.Prework members)
    (body_block body.Prework members))
prework_there members some = there_before members (work_rates members) (work_block members) some

-- a refusal of the prework's rates
pub refusal_of_prework : (expected : Result BodyRates RateError) (e : RateError)
    → IsRefusal expected e → IsRefusal (some_prework expected) e
refusal_of_prework expected broken.RateLimit h = ap some_prework h
refusal_of_prework expected broken.RateUnknown h = ap some_prework h
refusal_of_prework expected (broken.RateMismatch declared counted) h = ap some_prework h
refusal_of_prework expected broken.PeekOutside h = ap some_prework h
refusal_of_prework expected broken.NoMemory h = h

-- a refusal of an equal judgement
pub refusal_same : {A : Type 0} (first second : Result A RateError) (e : RateError) → first ≡ second
    → IsRefusal second e → IsRefusal first e
refusal_same first second broken.RateLimit same h = same ∙ h
refusal_same first second broken.RateUnknown same h = same ∙ h
refusal_same first second (broken.RateMismatch declared counted) same h = same ∙ h
refusal_same first second broken.PeekOutside same h = same ∙ h
refusal_same first second broken.NoMemory same h = h

-- a body whose limits, counts and rates pass is judged by its peeks
pub body_accepted : (lacks : Bool) (rates : List tree.Rate) (block : tree.Stmts) (c : Counts)
    (sights : List PeekBounds) → (not (are_within_limit rates) || lacks) ≡ false
    → stmts_counts [] block ≡ Some c → body_sights (window_size rates) block ≡ sights
    → same_rate (item_count (push_rate rates)) c.pushes ≡ Ok tt
    → same_rate (item_count (pop_rate rates)) c.pops ≡ Ok tt
    → body_checked lacks rates block ≡ with_closed_peeks rates sights
body_accepted lacks rates block c sights limits counts known pushes pops =
    ap (λ t. if t then Err RateLimit
    else counted rates (stmts_counts [] block) (body_sights (window_size rates) block)) limits
    ∙ ap (λ x. counted rates x (body_sights (window_size rates) block)) counts
    ∙ ap (λ s. counted rates (Some c) s) known
    ∙ ap (λ r. result_and_then r (λ same. result_and_then
    (same_rate (item_count (pop_rate rates)) c.pops) (λ also. with_closed_peeks rates sights)))
    pushes
    ∙ ap (λ r. result_and_then r (λ also. with_closed_peeks rates sights)) pops
