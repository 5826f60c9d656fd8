-- The rates of filters, node by node (StreamIt specification 2.1, "Filters": the rates of `work`).
use Rattle.std.specs.Prelude.{ℕ, ◌+◌, List, [], ◌∷◌, Result, Ok, Err}
use Rattle.strc_elab_graph.specs.Graphs.{NodeCode, Filter}
use Rattle.strc_rate.specs.Rates.{FilterRates, checked}
use Rattle.strc_rate.specs.declared.rates.RateError.{RateError}
use Rattle.strc_rate.specs.declared.rates.RateError.TheVariants as rate
use Rattle.strc_run_refusal.specs.declared.refusal.Refusal.{Refusal}
use Rattle.strc_run_refusal.specs.declared.refusal.Refusal.TheVariants as refusal

-- a refusal of a filter's rates, with its node
abbrev pub rate_refusal_of : ℕ → RateError → Refusal
rate_refusal_of node rate.RateLimit = refusal.RateLimit node
rate_refusal_of node rate.RateUnknown = refusal.RateUnknown node
rate_refusal_of node (rate.RateMismatch declared counted) =
    refusal.RateMismatch node declared counted
rate_refusal_of node rate.PeekOutside = refusal.PeekOutside node
rate_refusal_of node rate.NoMemory = refusal.NoMemory

-- a filter's test, with its node
abbrev pub filter_checked : ℕ → Result FilterRates RateError → Result (Unit {0}) Refusal
filter_checked node (Ok rates) = Ok tt
filter_checked node (Err broken) = Err (rate_refusal_of node broken)

-- a node's test: nodes other than filters have none
abbrev pub node_checked : ℕ → NodeCode → Result (Unit {0}) Refusal
node_checked node (Filter name filter) = filter_checked node (checked filter)
node_checked node _ = Ok tt

-- a test, and then those after it
abbrev pub then_check : Result (Unit {0}) Refusal → Result (Unit {0}) Refusal
    → Result (Unit {0}) Refusal
then_check (Ok done) next = next
then_check (Err refused) next = Err refused

-- the rates of nodes, one by one
abbrev pub rates_checked : ℕ → List NodeCode → Result (Unit {0}) Refusal
rates_checked node [] = Ok tt
rates_checked node (code ∷ codes) = then_check (node_checked node code)
    (rates_checked (node + 1) codes)
