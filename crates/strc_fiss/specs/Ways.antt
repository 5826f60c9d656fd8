-- Which nodes are split among copies, and among how many (Gordon, Thies and Amarasinghe 2006:
-- fission of stateless filters).
use Rattle.std.specs.Prelude.{ℕ, zero, suc, ◌/◌, ◌%◌, Bool, true, false, cond, not, ◌&&◌}
use Rattle.std.specs.Prelude.{nat_eq, nat_lt, List, Option, Some, slice_get}
use Rattle.std.specs.List.{list_any}
use Rattle.strc_work_meaning.specs.Filters as filters
use Rattle.strc_work_meaning.specs.Filters.{work_rates, push_rate, pop_rate, item_count}
use Rattle.strc_work_meaning.specs.Filters.{window_size}
use Rattle.strc_elab_graph.specs.Graphs.{Graph, Channel, NodeCode, Filter, Identity, ports_of}
use Rattle.strc_elab_graph.specs.declared.graph.Fission.{Fission}
use Rattle.strc_balance.specs.Balance.{count_at}
use Rattle.strc_fuse.specs.Units.{is_outside}
use Rattle.strc_work_writes.specs.Stateless.{is_stateless}

-- the rates of a filter's work
abbrev pub work_pop : filters.Filter → ℕ
work_pop filter = item_count (pop_rate (work_rates filter.members))

abbrev pub work_window : filters.Filter → ℕ
work_window filter = window_size (work_rates filter.members)

abbrev pub work_push : filters.Filter → ℕ
work_push filter = item_count (push_rate (work_rates filter.members))

-- it takes items by one port and gives items by one
abbrev pub passes_items : filters.Filter → Bool
passes_items filter =
    (nat_eq (ports_of filter.input) 1 && nat_lt 0 (work_pop filter))
    && (nat_eq (ports_of filter.output) 1 && nat_lt 0 (work_push filter))

-- a node whose firings are all alike, and pass items
abbrev pub is_alike : Option NodeCode → Bool
is_alike (Some (Filter name filter)) = passes_items filter && is_stateless filter
is_alike (Some Identity) = true
is_alike _ = false

-- A channel leads from a node to itself. Such a node is not split: each of its firings takes what
-- the one before gave, and where the channel holds fewer items than the scatter takes at once, the
-- round after fission would be no order.
abbrev pub is_own : (node : ℕ) → Channel → Bool
is_own node channel = nat_eq channel.source.node node && nat_eq channel.target.node node

abbrev pub feeds_itself : List Channel → (node : ℕ) → Bool
feeds_itself channels node = list_any (is_own node) channels

-- a node that can be split: its firings are alike, and no feedback loop needs what it gives
abbrev pub can_be_split : Graph → (node : ℕ) → Bool
can_be_split graph node =
    is_alike (slice_get graph.nodes node)
    && (is_outside (slice_get graph.outer_loops node) && not (feeds_itself graph.channels node))

-- the greatest divisor of a number that is at most another one
abbrev pub greatest_divisor : (count most : ℕ) → ℕ
greatest_divisor count zero = 1
greatest_divisor count (suc most) =
    cond (nat_eq (count % suc most) 0) (suc most) (greatest_divisor count most)

module _ (graph : Graph) (round : List ℕ) (ways : ℕ) where
  -- among how many copies a node is split: 1 is itself alone
  abbrev pub ways_of : (node : ℕ) → ℕ
  ways_of node =
      cond (can_be_split graph node && nat_lt 0 (count_at round node))
      (greatest_divisor (count_at round node) ways) 1

-- how a node's firings in a round are dealt to so many copies
abbrev pub whole : Fission
whole = record { ways = 1; firings = 0; pop = 0; window = 0; push = 0 }

abbrev pub dealt : Option NodeCode → (count ways : ℕ) → Fission
dealt (Some (Filter name filter)) count ways = record {
  ways = ways;
  firings = count / ways;
  pop = work_pop filter;
  window = work_window filter;
  push = work_push filter;
}
dealt (Some Identity) count ways = record {
  ways = ways;
  firings = count / ways;
  pop = 1;
  window = 1;
  push = 1;
}
dealt _ count ways = whole

-- how each node's firings are dealt
abbrev pub fission_of : Graph → (round : List ℕ) → (ways node : ℕ) → Fission
fission_of graph round ways node =
    dealt (slice_get graph.nodes node) (count_at round node) (ways_of graph round ways node)
