-- Later firings of a filter are those of its work.
use Rattle.std.proofs.Common.{◌≡◌, inl, inr, ℕ, zero, suc, List, Option}
use Rattle.std.proofs.Common.{Ok, refl, ap, ap₂, arith}
use Rattle.std.specs.Prelude.{unwrap_or}
use Rattle.strc_lex_names.specs.Results.{result_and_then}
use Rattle.strc_parse_tree.specs.Tree as tree
use Rattle.strc_work_meaning.specs.Filters.{Filter, body_block, work_block, work_rates}
use Rattle.strc_work_meaning.specs.Filters.{window_size, item_count, pop_rate, push_rate}
use Rattle.strc_work_meaning.specs.Firing.{stmts_done, setting_at, port_at_rates}
use Rattle.strc_work_meaning.specs.Firing.{store_at, block_left, field_values}
use Rattle.strc_elab_graph.specs.Graphs as graphs
use Rattle.strc_elab_graph.specs.Rates.{body_at, firing_rates, rate_at_0}
use Rattle.strc_emit_network.specs.Later.{IsWorkFiring, WorksFireLater}
use Rattle.strc_emit_network.specs.Later.{LaterRatesAreSame}

block_later : (filter : Filter) (firing : ℕ) → IsWorkFiring filter firing
    → body_block (body_at firing) filter.members ≡ work_block filter.members
block_later filter zero (inl none) =
    ap (λ (block : Option tree.Stmts). unwrap_or block (work_block filter.members)) none.block
block_later filter zero (inr after) = absurd (omega (arith, after))
block_later filter (suc firing) is = refl

pub rates_later : (filter : Filter) (firing : ℕ) → IsWorkFiring filter firing
    → firing_rates filter firing ≡ work_rates filter.members
rates_later filter zero (inl none) =
    ap (λ (rates : Option (List tree.Rate)). unwrap_or rates (work_rates filter.members))
    none.rates
rates_later filter zero (inr after) = absurd (omega (arith, after))
rates_later filter (suc firing) is = refl

pub works_fire_later : WorksFireLater
works_fire_later filter firing fields window is =
    ap₂ (λ (block : tree.Stmts) (rates : List tree.Rate).
    result_and_then (stmts_done (setting_at filter.members (port_at_rates rates window)) block
    (store_at filter fields)) (λ store.
    let left = block_left (store_at filter fields) store in
    Ok (record {
      fields = field_values left;
      pushes = left.traffic.pushes;
      words = left.traffic.words;
    }))) (block_later filter firing is) (rates_later filter firing is)

pub later_rates_are_same : LaterRatesAreSame
later_rates_are_same (graphs.Filter name filter) firing is port =
    let rates = rates_later filter firing is in (
      ap (λ (r : List tree.Rate). rate_at_0 (window_size r) port) rates,
      ap (λ (r : List tree.Rate). rate_at_0 (item_count (pop_rate r)) port) rates,
      ap (λ (r : List tree.Rate). rate_at_0 (item_count (push_rate r)) port) rates,
    )
later_rates_are_same graphs.Identity firing is port = (refl, refl, refl)
later_rates_are_same (graphs.FileReader text) firing is port = (refl, refl, refl)
later_rates_are_same (graphs.FileWriter text) firing is port = (refl, refl, refl)
later_rates_are_same (graphs.Splitter splitter) firing is port = (refl, refl, refl)
later_rates_are_same (graphs.Joiner weights) firing is port = (refl, refl, refl)
later_rates_are_same (graphs.Scatter fission) firing is port = absurd is
later_rates_are_same (graphs.Copy copied fission) firing is port = absurd is
later_rates_are_same (graphs.Gather fission) firing is port = absurd is
