-- A flat graph with its schedule, as they are run.
use Rattle.std.specs.Prelude.{◌≡◌, ℕ, suc, false, ℤ, List, [], ◌∷◌, All, Option, Some, Ok}
use Rattle.std.specs.Prelude.{slice_get, if◌then◌else◌}
use Rattle.strc_work_meaning.specs.Filters as filters
use Rattle.strc_work_meaning.specs.Firing.{started}
use Rattle.strc_work_meaning.specs.Closed.{IsClosedFilter}
use Rattle.strc_elab_graph.specs.Graphs.{NodeCode, Filter, Graph, reads_input}
use Rattle.strc_rate.specs.Rates.{FilterRates, checked}
use Rattle.strc_balance.specs.Balance as balance
use Rattle.strc_balance.specs.Balance.{count_at, IsWithinLimit}
use Rattle.strc_balance.specs.Rates.{IsRated, equations_of, size_of, fires_by_rounds}
use Rattle.strc_startup.specs.Startup as start
use Rattle.strc_startup.specs.Rates.{rates_of, first_counts}
use Rattle.strc_sched_orders.specs.Schedules.{ScheduleParts, IsRunnable}

-- a node is a filter of a graph
abbrev pub IsFilterOf : Graph → filters.Filter → Type 0
IsFilterOf graph filter = (node : ℕ) × (name : Option (List ℕ))
    × (slice_get graph.nodes node ≡ Some (Filter name filter))

-- a graph without nodes of fission, of filters that start and whose rates are checked, with a
-- schedule of its least counts, greedy or not
pub record IsPlanned (graph : Graph) (parts : ScheduleParts) : Type 0 where
  pub unfissioned : (node : ℕ) (code : NodeCode) → slice_get graph.nodes node ≡ Some code
      → fires_by_rounds code ≡ false
  pub starts : (filter : filters.Filter) → IsFilterOf graph filter
      → (fields : List ℤ) × (started filter ≡ Ok fields)
  pub rates : (filter : filters.Filter) → IsFilterOf graph filter
      → (rates : FilterRates) × (checked filter ≡ Ok rates)
  pub rated : All IsRated (equations_of graph)
  -- how often each node fires before the first round, and in each
  pub startup : List ℕ
  pub round : List ℕ
  pub least_startup : start.IsLeast (first_counts graph) (rates_of graph) startup
  pub least_round : balance.IsLeast (size_of graph) (equations_of graph) round
  pub startup_within : IsWithinLimit startup
  pub round_within : IsWithinLimit round
  pub schedule : IsRunnable (rates_of graph) (count_at startup) (count_at round) parts

-- the names in each filter are known
abbrev pub AreKnown : Graph → Type 0
AreKnown graph = (filter : filters.Filter) → IsFilterOf graph filter → IsClosedFilter filter

-- how many items of the program's input so many firings of each node read: the count of the reader,
-- where there is one; nodes are numbered from one on
abbrev pub read_from : (node : ℕ) → List NodeCode → (counts : ℕ → ℕ) → ℕ
read_from node [] counts = 0
read_from node (code ∷ codes) counts = if reads_input code then counts node
    else read_from (suc node) codes counts

abbrev pub items_read : List NodeCode → (counts : ℕ → ℕ) → ℕ
items_read nodes counts = read_from 0 nodes counts
