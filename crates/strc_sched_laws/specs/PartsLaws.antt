-- Which nodes of a flat graph may be split among copies: those whose firings are all alike.
use Rattle.std.specs.Prelude.{◌≡◌, ℕ, ℤ, true, List, Option, Ok}
use Rattle.strc_parse_tree.specs.declared.tree.ItemType.TheVariants as item
use Rattle.strc_work_meaning.specs.Filters as filters
use Rattle.strc_work_meaning.specs.Filters.{work_rates, push_rate, pop_rate, item_count}
use Rattle.strc_work_meaning.specs.Filters.{window_size}
use Rattle.strc_work_meaning.specs.Closed.{IsClosedFilter}
use Rattle.strc_work_meaning.specs.Firing.{started}
use Rattle.strc_rate.specs.Rates.{FilterRates, checked}
use Rattle.strc_elab_graph.specs.Graphs.{Filter, Identity}
use Rattle.strc_elab_graph.specs.Meaning.{node_meaning}
use Rattle.strc_elab_dataflow.specs.Split.{Share, IsStateless}
use Rattle.strc_work_writes.specs.Stateless.{is_stateless}

-- the rates of a share, in items of a firing
pub record HasRates (share : Share) (pop window push : ℕ) : Type 0 where
  pub pops : share.pop ≡ pop
  pub looks_at : share.window ≡ window
  pub pushes : share.push ≡ push

-- the rates of a share are those of a filter's work
abbrev pub HasWorkRates : filters.Filter → Share → Type 0
HasWorkRates filter share =
    HasRates share (item_count (pop_rate (work_rates filter.members)))
    (window_size (work_rates filter.members)) (item_count (push_rate (work_rates filter.members)))

-- a filter of known names that takes items, starts and keeps its rates: where it has no state, its
-- firings are all alike
abbrev pub StatelessFiltersFireAlike : Type 0
StatelessFiltersFireAlike =
    (name : Option (List ℕ)) (filter : filters.Filter) (share : Share) (fields : List ℤ)
    (rates : FilterRates)
    → is_stateless filter ≡ true → IsClosedFilter filter → filter.input ≡ item.Int
    → started filter ≡ Ok fields → checked filter ≡ Ok rates → HasWorkRates filter share
    → IsStateless node_meaning share (Filter name filter)

-- firings of an identity are, too
abbrev pub IdentitiesFireAlike : Type 0
IdentitiesFireAlike =
    (share : Share) → HasRates share 1 1 1 → IsStateless node_meaning share Identity
