-- The rates of a filter: what is declared against what is counted.
use Rattle.std.specs.Prelude.{ℕ, ℤ, pos, Bool, true, false, not, ◌&&◌, ◌||◌, nat_eq, List, [], ◌∷◌}
use Rattle.std.specs.Prelude.{map, Option, Some, None, Result, Ok, Err, if◌then◌else◌}
use Rattle.std.specs.Int.RustNames.{int_lt}
use Rattle.strc_lex_names.specs.Results.{result_and_then}
use Rattle.strc_parse_tree.specs.Tree as tree
use Rattle.strc_parse_tree.specs.declared.tree.ItemType.{ItemType}
use Rattle.strc_parse_tree.specs.declared.tree.ItemType.TheVariants as item
use Rattle.strc_work_meaning.specs.Filters.{Filter, work_block, work_rates, prework_block}
use Rattle.strc_work_meaning.specs.Filters.{prework_rates, push_rate, pop_rate, peek_rate}
use Rattle.strc_work_meaning.specs.Filters.{item_count}
use Rattle.strc_work_meaning.specs.Filters.{window_size}
use Rattle.strc_rate.specs.declared.counts.Counts.{Counts}
use Rattle.strc_rate.specs.declared.sight.PeekBounds.{PeekBounds}
use Rattle.strc_rate.specs.declared.sight.PeekBounds.TheVariants.{Outside}
use Rattle.strc_rate.specs.Counts.{stmts_counts}
use Rattle.strc_rate.specs.Peeks.{is_closed, body_sights}
use Rattle.strc_work_code.specs.declared.code.TheConstants.{RATE_LIMIT}
use Rattle.strc_rate.specs.declared.rates.RateError.{RateError}
use Rattle.strc_rate.specs.declared.rates.RateError.TheVariants.{RateLimit, RateUnknown}
use Rattle.strc_rate.specs.declared.rates.RateError.TheVariants.{RateMismatch, PeekOutside}

-- the rates of a body, the items that a firing of it may look at, and of each peek of its text, in
-- order, whether it is closed
pub record BodyRates : Type 0 where
  pub push : ℕ
  pub pop : ℕ
  pub window : ℕ
  pub closed : List Bool

-- the rates of a filter
pub record FilterRates : Type 0 where
  pub prework : Option BodyRates
  pub work : BodyRates

-- a rate is neither below 0 nor above 65,536
abbrev pub within_limit : ℤ → Bool
within_limit rate = not (int_lt rate (pos 0)) && not (int_lt RATE_LIMIT rate)

abbrev pub are_within_limit : List tree.Rate → Bool
are_within_limit rates = within_limit (push_rate rates)
    && (within_limit (pop_rate rates) && within_limit (peek_rate rates))

-- a side has items
abbrev pub has_items : ItemType → Bool
has_items item.Int = true
has_items item.Void = false

-- a side that has items has no rate
abbrev pub lacks_rate : ItemType → ℤ → Bool
lacks_rate side rate = has_items side && nat_eq (item_count rate) 0

-- a declared rate is the counted one
abbrev pub same_rate : (declared counted : ℕ) → Result (Unit {0}) RateError
same_rate declared counted = if nat_eq declared counted then Ok tt else Err
    (RateMismatch declared counted)

abbrev pub is_outside : PeekBounds → Bool
is_outside Outside = true
is_outside _ = false

abbrev pub some_outside : List PeekBounds → Bool
some_outside [] = false
some_outside (first ∷ rest) = is_outside first || some_outside rest

-- the rates of a body that are accepted
abbrev pub accepted_rates : List tree.Rate → List PeekBounds → BodyRates
accepted_rates rates sights = record {
  push = item_count (push_rate rates);
  pop = item_count (pop_rate rates);
  window = window_size rates;
  closed = map is_closed sights;
}

-- no peek is outside of its window
abbrev pub with_closed_peeks : List tree.Rate → List PeekBounds → Result BodyRates RateError
with_closed_peeks rates sights =
    if some_outside sights then Err PeekOutside else Ok (accepted_rates rates sights)

-- the counted pushes, and then the counted pops, are the declared ones
abbrev pub counted : List tree.Rate → Option Counts → List PeekBounds → Result BodyRates RateError
counted rates None sights = Err RateUnknown
counted rates (Some counts) sights =
    result_and_then (same_rate (item_count (push_rate rates)) counts.pushes) (λ same_pushes.
    result_and_then (same_rate (item_count (pop_rate rates)) counts.pops)
    (λ same_pops. with_closed_peeks rates sights))

-- the rates of a body: their limits, then the counts, then the peeks
abbrev pub body_checked : (lacks : Bool) → List tree.Rate → tree.Stmts → Result BodyRates RateError
body_checked lacks rates block =
    if not (are_within_limit rates) || lacks then Err RateLimit
    else counted rates (stmts_counts [] block) (body_sights (window_size rates) block)

-- a work lacks a rate where that is 0 on a side with items
abbrev pub work_lacks : Filter → Bool
work_lacks filter =
    lacks_rate filter.input (pop_rate (work_rates filter.members))
    || lacks_rate filter.output (push_rate (work_rates filter.members))

abbrev pub work_checked : Filter → Result BodyRates RateError
work_checked filter = body_checked (work_lacks filter) (work_rates filter.members)
    (work_block filter.members)

abbrev pub some_prework : Result BodyRates RateError → Result (Option BodyRates) RateError
some_prework (Ok rates) = Ok (Some rates)
some_prework (Err broken) = Err broken

-- the prework, where there is one: it lacks no rate
abbrev pub prework_checked : Option (List tree.Rate) → Option tree.Stmts
    → Result (Option BodyRates) RateError
prework_checked (Some rates) (Some block) = some_prework (body_checked false rates block)
prework_checked _ _ = Ok None

abbrev pub filter_rates : Option BodyRates → Result BodyRates RateError
    → Result FilterRates RateError
filter_rates prework (Ok work) = Ok (record { prework = prework; work = work })
filter_rates prework (Err broken) = Err broken

abbrev pub then_work : Result (Option BodyRates) RateError → Result BodyRates RateError
    → Result FilterRates RateError
then_work (Ok prework) work = filter_rates prework work
then_work (Err broken) work = Err broken

-- the rates of a filter: of its prework, and then of its work
abbrev pub checked : Filter → Result FilterRates RateError
checked filter =
    then_work (prework_checked (prework_rates filter.members) (prework_block filter.members))
    (work_checked filter)
