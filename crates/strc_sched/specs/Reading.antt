-- How many items of the program's input a run reads.
use Rattle.std.specs.Prelude.{ℕ, ◌≤◌, ◌^◌, List, Option, Some, None}
use Rattle.strc_sched_orders.specs.Order.{firing_count}

-- the count of a node, where there is one
abbrev pub count_of : Option ℕ → (counts : ℕ → ℕ) → ℕ
count_of None counts = 0
count_of (Some node) counts = counts node

-- no node fires more than about a million times
abbrev pub FiresFew : (order : List ℕ) → Type 0
FiresFew order = (node : ℕ) → firing_count order node ≤ 2 ^ 20
